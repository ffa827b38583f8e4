use Rattle.std.proofs.Common.{rules, ◌≡◌, ◌∙◌, None, refl, sym, ap, inr}
use Rattle.vx_plan_nodes.specs.Known.{first_unknown}
use Rattle.vx_plan_nodes.specs.TypedView.{resolved_of}
use Rattle.vx_plan_nodes.proofs.UnderErased.{last-functions-stand}
use Rattle.vx_check_rules.specs.Checked.{relations}
use Rattle.vx_exec_runs.specs.Runs.{unknown_in}
use Rattle.volcano_answer.proofs.statement.statement.Goals as goal

pub returns-in-Some-clause-refused : goal.returns-in-Some-clause-refused
returns-in-Some-clause-refused c =
    let catalog = relations c.args.plan.now in
    let same : unknown_in (resolved_of c.args.plan.now) ≡ c.in_ok-node.field-0 =
    ap (first_unknown catalog) (sym c.root.ensures.plan) ∙ ap (first_unknown catalog) (sym (last-functions-stand.own c.root.result.now))
    ∙ sym (c.in_ok-node.ensures catalog c.root.ensures.outputs) in
    inr (c.in-Some.node, refl, same ∙ c.in-Some.is)

pub returns-clause-text : goal.returns-clause-text
returns-clause-text c =
    let catalog = relations c.args.plan.now in
    let same : unknown_in (resolved_of c.args.plan.now) ≡ c.in_ok-node.field-0 =
    ap (first_unknown catalog) (sym c.root.ensures.plan) ∙ ap (first_unknown catalog) (sym (last-functions-stand.own c.root.result.now))
    ∙ sym (c.in_ok-node.ensures catalog c.root.ensures.outputs) in
    let none : c.in_ok-node.field-0 ≡ None = search rules in
    (same ∙ none, search rules)

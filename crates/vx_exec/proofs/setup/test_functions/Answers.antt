use Rattle.std.proofs.Common.{◌≡◌, ◌∙◌, refl, sym, ap, inr}
use Rattle.vx_plan_nodes.specs.Functions.{Functions}
use Rattle.vx_plan_nodes.specs.Known.{first_unknown}
use Rattle.vx_plan_nodes.specs.TypedView.{resolved_of}
use Rattle.vx_plan_nodes.specs.Under.{under, typed_plan_under}
use Rattle.vx_check_rules.specs.Checked.{relations}
use Rattle.vx_exec_runs.specs.Runs.{unknown_in}
use Rattle.vx_exec.proofs.FunctionFacts.{plan-under}
use Rattle.vx_exec.proofs.setup.test_functions.Goals as goal

pub returns-in-Some-clause-unknown : goal.returns-in-Some-clause-unknown
returns-in-Some-clause-unknown g c =
    let functions : Functions = g.F.PlanFunctions.functions c.args.functions.now in
    let p = c.args.plan.now in
    let catalog = relations p in
    let same : unknown_in (typed_plan_under functions (resolved_of p)) ≡ c.in_ok-node.field-0 =
    ap (first_unknown catalog) (plan-under functions p) ∙ ap (λ q. first_unknown catalog (under functions q)) (sym c.root.ensures.plan)
    ∙ sym (c.in_ok-node.ensures catalog c.root.ensures.outputs) in
    inr (c.in-Some.node, refl, same ∙ c.in-Some.is)

pub returns-in-None-clause-known : goal.returns-in-None-clause-known
returns-in-None-clause-known g c =
    let functions : Functions = g.F.PlanFunctions.functions c.args.functions.now in
    let p = c.args.plan.now in
    let catalog = relations p in
    ap (first_unknown catalog) (plan-under functions p) ∙ ap (λ q. first_unknown catalog (under functions q)) (sym c.root.ensures.plan)
    ∙ sym (c.in_ok-node.ensures catalog c.root.ensures.outputs) ∙ c.in-None.is

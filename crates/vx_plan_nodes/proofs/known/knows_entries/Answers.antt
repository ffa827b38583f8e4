use Rattle.std.proofs.Common.{◌∙◌, sym, ap, Bool, map, take_all}
use Rattle.std.proofs.lemmas.List.Folds.{list_all-map, list_all_at}
use Rattle.std.specs.List.{list_all}
use Rattle.vx_plan_nodes.specs.declared.typed.Entry.{Entry}
use Rattle.vx_plan_nodes.specs.Functions.{Functions}
use Rattle.vx_plan_nodes.specs.Known.{entry_known}
use Rattle.vx_plan_nodes.specs.Outline.{entry_of}
use Rattle.vx_plan_nodes.specs.Plan.{Entry as PlanEntry}
use Rattle.vx_plan_nodes.specs.Under.{entry_under}
use Rattle.vx_plan_nodes.proofs.known.knows_entries.Goals as goal

pub returns-then-not-branch : goal.returns-then-not-branch
returns-then-not-branch g c =
    let given : Functions = g.F.PlanFunctions.functions c.args.functions.now in
    let test : PlanEntry → Bool = entry_known c.args.types.now in
    let known : Entry → Bool = λ x. test (entry_under given (entry_of x)) in
    sym (list_all-map test (entry_under given) (map entry_of c.args.entries.now)
    ∙ list_all-map (λ x. test (entry_under given x)) entry_of c.args.entries.now
    ∙ list_all_at known c.args.entries.now c.loop-entry.entry-index c.entry-item.result c.loop-entry-test.true (ap known (sym c.entry-item.is) ∙ (sym (c.in_ok-knows_entry.ensures) ∙ c.if-not-branch.true)))

pub returns : goal.returns
returns g c =
    let given : Functions = g.F.PlanFunctions.functions c.args.functions.now in
    let test : PlanEntry → Bool = entry_known c.args.types.now in
    let known : Entry → Bool = λ x. test (entry_under given (entry_of x)) in
    sym (list_all-map test (entry_under given) (map entry_of c.args.entries.now)
    ∙ list_all-map (λ x. test (entry_under given x)) entry_of c.args.entries.now
    ∙ (ap (list_all known) (sym (take_all c.loop-entry.entry-index c.args.entries.now c.loop-entry-test.false)) ∙ c.loop-entry.invariant))

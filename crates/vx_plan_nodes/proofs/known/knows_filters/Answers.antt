use Rattle.std.proofs.Common.{◌∙◌, sym, ap, Bool, map, take_all}
use Rattle.std.proofs.lemmas.List.Folds.{list_all-map, list_all_at}
use Rattle.std.specs.List.{list_all}
use Rattle.vx_plan_nodes.specs.declared.typed.Filter.{Filter}
use Rattle.vx_plan_nodes.specs.Functions.{Functions}
use Rattle.vx_plan_nodes.specs.Known.{filter_known}
use Rattle.vx_plan_nodes.specs.Outline.{filter_of}
use Rattle.vx_plan_nodes.specs.Plan.{Filter as PlanFilter}
use Rattle.vx_plan_nodes.specs.Under.{filter_under}
use Rattle.vx_plan_nodes.proofs.known.knows_filters.Goals as goal

pub returns-then-not-branch : goal.returns-then-not-branch
returns-then-not-branch g c =
    let given : Functions = g.F.PlanFunctions.functions c.args.functions.now in
    let test : PlanFilter → Bool = filter_known c.args.types.now in
    let known : Filter → Bool = λ x. test (filter_under given (filter_of x)) in
    sym (list_all-map test (filter_under given) (map filter_of c.args.filters.now)
    ∙ list_all-map (λ x. test (filter_under given x)) filter_of c.args.filters.now
    ∙ list_all_at known c.args.filters.now c.loop-filter.filter-index c.filter-item.result c.loop-filter-test.true (ap known (sym c.filter-item.is) ∙ (sym (c.in_ok-knows_filter.ensures) ∙ c.if-not-branch.true)))

pub returns : goal.returns
returns g c =
    let given : Functions = g.F.PlanFunctions.functions c.args.functions.now in
    let test : PlanFilter → Bool = filter_known c.args.types.now in
    let known : Filter → Bool = λ x. test (filter_under given (filter_of x)) in
    sym (list_all-map test (filter_under given) (map filter_of c.args.filters.now)
    ∙ list_all-map (λ x. test (filter_under given x)) filter_of c.args.filters.now
    ∙ (ap (list_all known) (sym (take_all c.loop-filter.filter-index c.args.filters.now c.loop-filter-test.false)) ∙ c.loop-filter.invariant))

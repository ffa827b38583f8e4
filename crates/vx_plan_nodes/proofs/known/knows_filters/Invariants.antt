use Rattle.std.proofs.Common.{◌≡◌, true, take}
use Rattle.std.specs.List.{list_all}
use Rattle.vx_plan_nodes.specs.Known.{filter_known}
use Rattle.vx_plan_nodes.specs.Outline.{filter_of}
use Rattle.vx_plan_nodes.specs.Under.{filter_under}
use Rattle.vx_plan_nodes.proofs.known.knows_filters.Given as goal

abbrev pub invariant-loop-filter : goal.invariant-loop-filter
invariant-loop-filter g l = list_all (λ x. filter_known l.types (filter_under (g.F.PlanFunctions.functions l.functions) (filter_of x))) (take l.filter-index l.filters) ≡ true

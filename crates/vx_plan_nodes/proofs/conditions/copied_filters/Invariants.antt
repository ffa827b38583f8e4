use Rattle.std.proofs.Common.{◌≡◌, map, take}
use Rattle.vx_plan_nodes.specs.Outline.{filter_of}
use Rattle.vx_plan_nodes.proofs.conditions.copied_filters.Given as goal

abbrev pub invariant-loop-filter : goal.invariant-loop-filter
invariant-loop-filter l = map filter_of l.copies.items ≡ map filter_of (take l.filter-index l.filters)

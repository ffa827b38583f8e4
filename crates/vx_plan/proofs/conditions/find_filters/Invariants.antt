use Rattle.std.proofs.Common.{◌≡◌, [], map, drop}
use Rattle.vx_plan.specs.Lookup.{walk_onto}
use Rattle.vx_plan_json.specs.Document.{filter_form}
use Rattle.vx_plan_nodes.specs.Outline.{filter_of}
use Rattle.vx_plan.specs.Resolve.{find_filter}
use Rattle.vx_plan.proofs.conditions.find_filters.Given as goal

abbrev pub invariant-loop-filter : goal.invariant-loop-filter
invariant-loop-filter l =
    walk_onto (find_filter l.node l.names) (map filter_of l.found.items) (map filter_form (drop l.filter-index l.filters)) ≡ walk_onto (find_filter l.node l.names) [] (map filter_form l.filters)

use Rattle.std.proofs.Common.{◌≡◌, [], map, drop}
use Rattle.vx_plan.specs.Lookup.{walk_onto}
use Rattle.vx_plan_json.specs.Document.{aggregate_form}
use Rattle.vx_plan_nodes.specs.Outline.{aggregate_of}
use Rattle.vx_plan.specs.Resolve.{find_function}
use Rattle.vx_plan.proofs.unary_nodes.find_aggregates.Given as goal

abbrev pub invariant-loop-aggregate : goal.invariant-loop-aggregate
invariant-loop-aggregate l =
    walk_onto (λ a. find_function l.node l.names a.function) (map aggregate_of l.found.items) (map aggregate_form (drop l.aggregate-index l.aggregates)) ≡ walk_onto (λ a. find_function l.node l.names a.function) [] (map aggregate_form l.aggregates)

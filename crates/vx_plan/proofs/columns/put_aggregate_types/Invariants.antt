use Rattle.std.proofs.Common.{◌≡◌, ◌++◌, map, take}
use Rattle.vx_plan_nodes.specs.Outline.{aggregate_of}
use Rattle.vx_plan_nodes.specs.Types.{aggregate_type}
use Rattle.vx_plan.proofs.columns.put_aggregate_types.Given as goal

abbrev pub invariant-loop-aggregate : goal.invariant-loop-aggregate
invariant-loop-aggregate l = l.list.items ≡ l.initial.list.items ++ map (aggregate_type l.types) (map aggregate_of (take l.aggregate-index l.aggregates))

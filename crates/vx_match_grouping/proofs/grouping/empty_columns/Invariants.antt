use Rattle.std.proofs.Common.{◌≡◌, [], map, take}
use Rattle.vx_plan_nodes.specs.Outline.{aggregate_of as op_of}
use Rattle.vx_match_grouping.specs.Groups.{column_of}
use Rattle.vx_match_grouping.specs.Shown.{column_held, aggregate_in}
use Rattle.vx_match_grouping.proofs.grouping.empty_columns.Given as goal

abbrev pub invariant-loop-aggregate : goal.invariant-loop-aggregate
invariant-loop-aggregate l =
    (map aggregate_in l.columns.items ≡ map op_of (take l.aggregate-index l.aggregates))
    × (map column_held l.columns.items ≡ map (column_of [] []) (map op_of (take l.aggregate-index l.aggregates)))

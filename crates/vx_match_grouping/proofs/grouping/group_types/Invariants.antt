use Rattle.std.proofs.Common.{◌≡◌, ◌++◌, map, take}
use Rattle.vx_rows_values.specs.Types.{type_at}
use Rattle.vx_plan_nodes.specs.Types.{aggregate_type}
use Rattle.vx_match_grouping.specs.Shown.{aggregate_in}
use Rattle.vx_match_grouping.proofs.grouping.group_types.Given as goal

abbrev pub invariant-loop-column : goal.invariant-loop-column
invariant-loop-column l = l.found.items ≡ map (type_at l.types) l.by ++ map (aggregate_type l.types) (map aggregate_in (take l.column-index l.columns))

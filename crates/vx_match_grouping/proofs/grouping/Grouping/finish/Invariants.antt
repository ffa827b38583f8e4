use Rattle.std.proofs.Common.{◌≡◌, true, List, map, take}
use Rattle.std.specs.List.{list_all}
use Rattle.vx_rows_values.specs.Values.{Row}
use Rattle.vx_plan_nodes.specs.Plan.{group, plain}
use Rattle.vx_plan_nodes.specs.Types.{unary_types}
use Rattle.vx_plan_nodes.specs.Serial.{group_keys, group_row, group_fits}
use Rattle.vx_match_grouping.specs.Groups.{HasTaken}
use Rattle.vx_match_grouping.proofs.grouping.Grouping.finish.Given as goal

abbrev pub invariant-loop-number : goal.invariant-loop-number
invariant-loop-number l = record {
  types : l.found.types ≡ unary_types (group plain l.self.by l.self.aggregates) l.self.types;
  rows : (xs : List Row) → HasTaken l.self xs → l.found.rows ≡ map (group_row l.self.by l.self.aggregates xs) (take l.number (group_keys l.self.by xs));
  fit : (xs : List Row) → HasTaken l.self xs → list_all (group_fits l.self.by l.self.aggregates xs) (take l.number (group_keys l.self.by xs)) ≡ true;
}

use Rattle.std.proofs.Common.{◌≡◌, ℕ, ◌+◌, ◌≤◌, List, map, take, length, flat_map}
use Rattle.std.specs.Prelude.{slice_range}
use Rattle.std.specs.List.{position_or_len}
use Rattle.vx_rows_values.specs.Values.{Row, row_eq, pick}
use Rattle.vx_plan_nodes.specs.Serial.{group_keys}
use Rattle.vx_match_join.specs.Build.{ArePairs}
use Rattle.vx_match_keys.specs.Matched.{matched}
use Rattle.vx_match_join.proofs.join.Build.pair_numbers.Given as goal

abbrev pub invariant-loop-i : goal.invariant-loop-i
invariant-loop-i l = record {
  start : l.i ≡ 0 → length l.pairs.lefts.items ≡ length l.initial.pairs.lefts.items;
  pairs : (columns : List ℕ) (ls : List Row) → l.to ≤ length ls
      → l.numbers ≡ map (λ r. position_or_len (row_eq (pick columns r)) (group_keys l.self.columns l.self.rows)) (slice_range ls l.from l.to)
      → ArePairs ls l.self.rows l.initial.pairs.lefts.items l.initial.pairs.rights.items (flat_map (matched columns l.self.columns l.self.rows) (take l.from ls))
      → ArePairs ls l.self.rows l.pairs.lefts.items l.pairs.rights.items (flat_map (matched columns l.self.columns l.self.rows) (take (l.from + l.i) ls));
}

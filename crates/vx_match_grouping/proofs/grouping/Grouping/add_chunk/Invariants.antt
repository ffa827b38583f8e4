use Rattle.std.proofs.Common.{◌≡◌, ◌++◌, ◌-◌, ◌≤◌, List, length, take}
use Rattle.vx_rows_values.specs.Values.{Row}
use Rattle.vx_match_grouping.specs.Groups.{HasTaken}
use Rattle.vx_match_grouping.proofs.grouping.Grouping.add_chunk.Given as goal

-- the rows before `from` were added
abbrev pub invariant-loop-from : goal.invariant-loop-from
invariant-loop-from l = record {
  within : l.from ≤ length l.chunk.rows;
  types : l.self.types ≡ l.initial.self.types;
  by : l.self.by ≡ l.initial.self.by;
  aggregates : l.self.aggregates ≡ l.initial.self.aggregates;
  failed : l.self.failed ≡ l.initial.self.failed;
  taken : (xs : List Row) → HasTaken l.initial.self xs → HasTaken l.self (xs ++ take l.from l.chunk.rows);
}

abbrev pub decreases-loop-from : goal.decreases-loop-from
decreases-loop-from l = length l.chunk.rows - l.from

use Rattle.std.proofs.Common.{◌≡◌, ◌++◌, List, take}
use Rattle.vx_rows_values.specs.Values.{Row}
use Rattle.vx_rows_views.specs.Chunks.{all_rows}
use Rattle.vx_match_grouping.specs.Groups.{HasTaken}
use Rattle.vx_match_grouping.proofs.grouping.Grouping.add_chunks.Given as goal

abbrev pub invariant-loop-i : goal.invariant-loop-i
invariant-loop-i l = record {
  types : l.self.types ≡ l.initial.self.types;
  by : l.self.by ≡ l.initial.self.by;
  aggregates : l.self.aggregates ≡ l.initial.self.aggregates;
  failed : l.self.failed ≡ l.initial.self.failed;
  taken : (xs : List Row) → HasTaken l.initial.self xs → HasTaken l.self (xs ++ all_rows (take l.i l.chunks));
}

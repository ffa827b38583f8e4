use Rattle.std.proofs.Common.{◌≡◌, ◌≤◌, ◌-◌, ◌++◌, map, take, length}
use Rattle.vx_rows_values.specs.Values.{row_eq, pick}
use Rattle.indexmap.specs.IndexSet.{insert_all}
use Rattle.vx_match_keys.specs.Numbers.{numbers_of}
use Rattle.vx_match_keys.proofs.column_keys.ColumnKeys.number_all.Given as goal

abbrev pub invariant-loop-from : goal.invariant-loop-from
invariant-loop-from l = record {
  within : l.from ≤ length l.chunk.rows;
  types : l.self.types ≡ l.initial.self.types;
  numbers : l.numbers.items ≡ l.initial.numbers.items ++ numbers_of l.initial.self.rows (take l.from (map (pick l.columns) l.chunk.rows));
  keys : l.self.rows ≡ insert_all row_eq l.initial.self.rows (take l.from (map (pick l.columns) l.chunk.rows));
}

abbrev pub decreases-loop-from : goal.decreases-loop-from
decreases-loop-from l = l.count - l.from

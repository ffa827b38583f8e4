use Rattle.std.proofs.Common.{◌≡◌, [], map}
use Rattle.std.specs.List.{range_with_len}
use Rattle.vx_wisconsin.specs.Wisconsin.{row_of, column_types}
use Rattle.vx_wisconsin.proofs.rows.generate_rows.Given as goal

abbrev pub invariant-loop-i : goal.invariant-loop-i
invariant-loop-i l = record {
  types : l.rows.types ≡ column_types;
  rows : l.rows.rows ≡ map (row_of l.count) (range_with_len 0 l.i);
  front : l.rows.front ≡ [];
}

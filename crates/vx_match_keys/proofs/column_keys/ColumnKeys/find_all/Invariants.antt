use Rattle.std.proofs.Common.{◌≡◌, map, take}
use Rattle.std.specs.List.{position_or_len}
use Rattle.vx_rows_values.specs.Values.{row_eq, pick}
use Rattle.vx_match_keys.proofs.column_keys.ColumnKeys.find_all.Given as goal

abbrev pub invariant-loop-i : goal.invariant-loop-i
invariant-loop-i l = l.numbers.items ≡ map (λ r. position_or_len (row_eq (pick l.columns r)) l.self.rows) (take l.i l.chunk.rows)

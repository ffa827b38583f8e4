use Rattle.std.proofs.Common.{◌≡◌, map, take}
use Rattle.vx_rows_values.specs.ValueView.{cell_val}
use Rattle.vx_rows.specs.View.{row}
use Rattle.vx_match_keys.proofs.column_keys.ColumnKeys.is_key.Given as goal

abbrev pub invariant-loop-column : goal.invariant-loop-column
invariant-loop-column l = take l.column (map cell_val l.cells) ≡ take l.column (row l.self l.number)

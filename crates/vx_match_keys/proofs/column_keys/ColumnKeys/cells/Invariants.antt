use Rattle.std.proofs.Common.{◌≡◌, map, take}
use Rattle.vx_rows_values.specs.ValueView.{cell_val}
use Rattle.vx_rows.specs.View.{row}
use Rattle.vx_match_keys.proofs.column_keys.ColumnKeys.cells.Given as goal

abbrev pub invariant-loop-column : goal.invariant-loop-column
invariant-loop-column l = map cell_val l.cells.items ≡ take l.column (row l.self l.number)

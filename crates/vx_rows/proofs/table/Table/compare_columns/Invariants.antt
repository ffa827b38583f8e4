use Rattle.std.proofs.Common.{◌≡◌, drop}
use Rattle.vx_rows.specs.View.{row}
use Rattle.vx_rows_values.specs.Order.{rising, compare_on}
use Rattle.vx_rows.proofs.table.Table.compare_columns.Given as goal

-- what is left decides
abbrev pub invariant-loop-c : goal.invariant-loop-c
invariant-loop-c l = compare_on (rising l.cols) (row l.self l.i) (row l.self l.j) ≡ compare_on (rising (drop l.c-index l.cols)) (row l.self l.i) (row l.self l.j)

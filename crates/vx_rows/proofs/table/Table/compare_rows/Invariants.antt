use Rattle.std.proofs.Common.{◌≡◌, drop}
use Rattle.vx_rows.specs.View.{row}
use Rattle.vx_rows_values.specs.Order.{compare_on}
use Rattle.vx_rows.proofs.table.Table.compare_rows.Given as goal

-- what is left decides
abbrev pub invariant-loop-entry : goal.invariant-loop-entry
invariant-loop-entry l = compare_on l.order (row l.self l.i) (row l.self l.j) ≡ compare_on (drop l.entry-index l.order) (row l.self l.i) (row l.self l.j)

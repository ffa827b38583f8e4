use Rattle.std.proofs.Common.{◌≡◌, drop}
use Rattle.vx_rows.specs.View.{row}
use Rattle.vx_rows_values.specs.Order.{compare_on}
use Rattle.vx_rows.proofs.sorting.compare_on.Given as goal

-- what is left decides
abbrev pub invariant-loop-entry : goal.invariant-loop-entry
invariant-loop-entry l = compare_on l.order (row l.a l.i) (row l.b l.j) ≡ compare_on (drop l.entry-index l.order) (row l.a l.i) (row l.b l.j)

use Rattle.vx_rows_values.proofs.KeyFacts.{Rises}
use Rattle.vx_rows.proofs.table.Table.rises.Given as goal

abbrev pub invariant-loop-i : goal.invariant-loop-i
invariant-loop-i l = Rises l.cols l.self.rows l.i

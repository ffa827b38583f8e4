use Rattle.vx_rows_values.proofs.SortedFacts.{NoFall}
use Rattle.vx_rows.proofs.table.Table.is_sorted.Given as goal

abbrev pub invariant-loop-i : goal.invariant-loop-i
invariant-loop-i l = NoFall l.order l.self.rows l.i

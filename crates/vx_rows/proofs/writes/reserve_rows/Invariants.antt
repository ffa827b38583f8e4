use Rattle.vx_rows.specs.Columns.{KeepRows}
use Rattle.vx_rows.proofs.writes.reserve_rows.Given as goal

abbrev pub invariant-loop-j : goal.invariant-loop-j
invariant-loop-j l = KeepRows l.at l.initial.columns.items l.columns.items

use Rattle.std.proofs.Common.{◌≡◌}
use Rattle.vx_rows.proofs.writes.reserve_times.Given as goal

abbrev pub invariant-loop-j : goal.invariant-loop-j
invariant-loop-j l = l.columns.items ≡ l.initial.columns.items

use Rattle.std.proofs.Common.{◌≡◌, replicate, false}
use Rattle.vx_functions.proofs.patterns.end_row.Given as goal

abbrev pub invariant-loop : goal.invariant-loop
invariant-loop l = l.row.items ≡ replicate l.counter false

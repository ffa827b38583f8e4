use Rattle.std.proofs.Common.{◌≡◌, false, replicate}
use Rattle.vx_plan.proofs.binary_nodes.all_rising.Given as goal

abbrev pub invariant-loop : goal.invariant-loop
invariant-loop l = l.falls.items ≡ replicate l.counter false

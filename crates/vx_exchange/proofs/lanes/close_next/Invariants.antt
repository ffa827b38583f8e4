use Rattle.std.proofs.Common.{◌≡◌}
use Rattle.vx_exchange.specs.Lanes.{ClosedBefore}
use Rattle.vx_exchange.proofs.lanes.close_next.Given as goal

abbrev pub invariant-loop-consumer : goal.invariant-loop-consumer
invariant-loop-consumer l = (l.lanes.items ≡ l.initial.lanes.items) × ClosedBefore l.consumer l.lanes.items

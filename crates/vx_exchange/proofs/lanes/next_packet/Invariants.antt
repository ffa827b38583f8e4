use Rattle.std.proofs.Common.{◌≡◌}
use Rattle.vx_exchange.specs.Lanes.{IdleBefore}
use Rattle.vx_exchange.proofs.lanes.next_packet.Given as goal

abbrev pub invariant-loop-consumer : goal.invariant-loop-consumer
invariant-loop-consumer l = (l.lanes.items ≡ l.initial.lanes.items) × IdleBefore l.consumer l.lanes.items

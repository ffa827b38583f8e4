use Rattle.vx_exchange.proofs.LaneLists.{FinishesBelow}
use Rattle.vx_exchange.proofs.lanes.finish_lanes.Given as goal

abbrev pub invariant-loop-consumer : goal.invariant-loop-consumer
invariant-loop-consumer l = FinishesBelow l.consumer l.initial.lanes.items l.lanes.items

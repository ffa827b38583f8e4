use Rattle.vx_exchange.proofs.LaneLists.{CutsBelow}
use Rattle.vx_exchange.proofs.deal.deal_to_each.Given as goal

abbrev pub invariant-loop-consumer : goal.invariant-loop-consumer
invariant-loop-consumer l = CutsBelow l.consumer (λ j. l.rows.rows) l.initial.lanes.items l.lanes.items

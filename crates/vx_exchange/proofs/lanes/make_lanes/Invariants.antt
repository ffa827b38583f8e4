use Rattle.vx_exchange.specs.Lanes.{AreFresh}
use Rattle.vx_exchange.proofs.lanes.make_lanes.Given as goal

abbrev pub invariant-loop-consumer : goal.invariant-loop-consumer
invariant-loop-consumer l = AreFresh l.consumer (λ j. record { exchange = l.exchange; place = l.place; consumer = j; types = l.types; size = l.size }) l.lanes.items

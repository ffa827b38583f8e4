use Rattle.std.proofs.Common.{refl, length-set}
use Rattle.vx_exchange.specs.Receiver.{receiver_end}
use Rattle.vx_exchange.proofs.Arrivals.{port-last, port-ends}
use Rattle.vx_exchange.proofs.receiver.Receiver.end_producer.Goals as goal

pub returns-in-Some-clause-stands : goal.returns-in-Some-clause-stands
returns-in-Some-clause-stands c =
    rw (c.requires, length-set)
    (λ l p f e h. port-last (receiver_end c.args.self.now) c.args.self.now.next c.args.self.now.ended.items p l refl refl f c.in-Some.i e (rw c.as_slice.ensures.value at c.in-Some.ensures.some) h)

pub returns-in-None-clause-stands : goal.returns-in-None-clause-stands
returns-in-None-clause-stands c =
    rw (c.requires, length-set)
    (λ l p f e h. port-ends (receiver_end c.args.self.now) c.args.self.now.next c.args.self.now.ended.items p l refl refl f e (rw c.as_slice.ensures.value at c.in-None.ensures.none) h)

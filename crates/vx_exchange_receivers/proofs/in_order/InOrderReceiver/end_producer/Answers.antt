use Rattle.std.proofs.Common.{arith, refl, ◌<◌, ◌≤◌, ◌+◌}
use Rattle.vx_exchange_receivers.specs.InOrder.{in_order_end}
use Rattle.vx_exchange_receivers.proofs.InOrders.{in-last, in-ends}
use Rattle.vx_exchange_receivers.proofs.in_order.InOrderReceiver.end_producer.Goals as goal

pub returns-then-self-clause-stands : goal.returns-then-self-clause-stands
returns-then-self-clause-stands c =
    let s = c.args.self.now in
    let t = c.if-self.true in
    let lt : s.next + 1 < s.producers = omega (arith, t) in
    rw c.requires (λ l p f e h. in-last (in_order_end s) s.next p l f (h.runs refl) h.same e lt)

pub returns-clause-stands : goal.returns-clause-stands
returns-clause-stands c =
    let s = c.args.self.now in
    let t = c.if-self.false in
    let le : s.producers ≤ s.next + 1 = omega (arith, t) in
    rw c.requires (λ l p f e h. in-ends (in_order_end s) s.next p l f (h.runs refl) h.same e le)

use Rattle.std.proofs.Common.{rules, arith, refl, ap, sym, ◌∙◌, ◌≤◌, ◌<◌, Some, true, [], length, subst}
use Rattle.vx_ports.specs.Packets.{FitsContent, content_rows}
use Rattle.vx_ops.specs.Ledger.{IsFor}
use Rattle.vx_ops.specs.Turn.{with_rows}
use Rattle.vx_ops.specs.declared.turn.Got.TheVariants as got
use Rattle.vx_ops.proofs.Costs.{rows-more, sum-more}
use Rattle.vx_exchange_receivers.specs.InOrder.{in_order_end, in_order_want, in_order-grows}
use Rattle.vx_exchange_receivers.proofs.Ends.{abides-stranger, abides-broken}
use Rattle.vx_exchange_receivers.proofs.InOrders.{in-rows, in-fails}
use Rattle.vx_exchange_receivers.proofs.in_order.InOrderReceiver.take_packet.Goals as goal

pub returns-then-not-expects-clause-stands : goal.returns-then-not-expects-clause-stands
returns-then-not-expects-clause-stands c =
    let s = c.args.self.now in
    let ours = c.expects.ensures.ours s.producers [] true in
    let no : IsFor (in_order_end s) s.next c.args.packet → ⊥ = λ f. let t = ours.1 f in search rules in
    let e = c.fail.ensures in
    rw (e.over, e.result, e.port, e.producers, e.next, c.requires)
    (λ l h. in-fails _ s.next _ _ refl (abides-stranger (in_order_end s) s.next c.args.packet l (h.runs refl).stands.in_range no h.abides.before))

pub returns-in-Rows-clause-stands : goal.returns-in-Rows-clause-stands
returns-in-Rows-clause-stands c =
    let s = c.args.self.now in
    let f : IsFor (in_order_end s) s.next c.args.packet = (c.expects.ensures.ours s.producers [] true).0 (search rules) in
    rw c.requires (λ l h. in-rows (in_order_end s) s.next c.args.packet l f (h.runs refl) h.same c.in-Rows.rows c.in-Rows.ensures.1)

pub returns-in-Rows-clause-gives : goal.returns-in-Rows-clause-gives
returns-in-Rows-clause-gives c =
    let s = c.args.self.now in
    let f : IsFor (in_order_end s) s.next c.args.packet = (c.expects.ensures.ours s.producers [] true).0 (search rules) in
    let fit : FitsContent c.args.packet.types c.args.packet.content = c.expects.ensures.fit (search rules) in
    let few = subst (λ k. FitsContent c.args.packet.types k) c.in-Rows.ensures.1 fit in
    let some : 1 ≤ length c.in-Rows.rows.rows = few.0 in
    (sym c.in-Rows.ensures.0 ∙ f.types, omega (arith, some))

pub returns-in-End-Last-clause-stands : goal.returns-in-End-Last-clause-stands
returns-in-End-Last-clause-stands c =
    let s = c.args.self.now in
    let f : IsFor (in_order_end s) s.next c.args.packet = (c.expects.ensures.ours s.producers [] true).0 (search rules) in
    λ l h. c.end_producer.ensures.stands l c.args.packet f (rw c.in-End-Last.field-0-is at c.in-End-Last.ensures) h

pub returns-in-End-Fault-clause-stands : goal.returns-in-End-Fault-clause-stands
returns-in-End-Fault-clause-stands c =
    let s = c.args.self.now in
    let f : IsFor (in_order_end s) s.next c.args.packet = (c.expects.ensures.ours s.producers [] true).0 (search rules) in
    let e = c.fail-in-End-Fault.ensures in
    rw (e.over, e.result, e.port, e.producers, e.next, c.requires)
    (λ l h. in-fails _ s.next _ _ refl (abides-broken (in_order_end s) s.next c.args.packet l (h.runs refl).stands.in_range f (rw c.in-End-Fault.field-0-is at c.in-End-Fault.ensures) (h.runs refl).ours h.abides.before))

pub returns-then-not-expects-clause-pays : goal.returns-then-not-expects-clause-pays
returns-then-not-expects-clause-pays c k =
    let s = c.args.self.now in
    let w = in_order_want s in
    let g = got.Packet (Some c.args.packet) in
    let more = in_order-grows s k (with_rows w g k) (rows-more w g k) in
    let e = c.fail.ensures in
    rw (e.result, e.producers) (record { rows = omega (arith, more); turns = omega arith })

pub returns-in-Rows-clause-pays : goal.returns-in-Rows-clause-pays
returns-in-Rows-clause-pays c k =
    let s = c.args.self.now in
    let near : s.next < s.producers = s.next_in_range in
    let more = sum-more s.producers s.next (length (content_rows c.args.packet.content)) k.packets near in
    let rows = ap (λ x. length (content_rows x)) c.in-Rows.ensures.1 in
    rw c.requires (record { rows = omega (arith, more, rows); turns = omega arith })

use Rattle.std.proofs.Common.{◌<◌, Some, length, refl, ap, rules, arith}
use Rattle.vx_ports.specs.Packets.{content_rows}
use Rattle.vx_ops.specs.Ledger.{IsFor}
use Rattle.vx_ops.specs.Turn.{with_rows}
use Rattle.vx_ops.specs.declared.turn.Got.TheVariants as got
use Rattle.vx_ops.proofs.Costs.{rows-more, sum-more}
use Rattle.vx_exchange.specs.Receiver.{receiver_end, receiver_want, receiver-grows}
use Rattle.vx_exchange.proofs.Arrivals.{port-stranger, port-broken, port-rows}
use Rattle.vx_exchange.proofs.receiver.Receiver.take_packet.Goals as goal

pub returns-then-not-is_expected-clause-stands : goal.returns-then-not-is_expected-clause-stands
returns-then-not-is_expected-clause-stands c =
    let no : IsFor (receiver_end c.args.self.now) c.args.self.now.next c.args.packet → ⊥ = search rules in
    rw c.requires (λ l h. port-stranger (receiver_end c.args.self.now) c.args.self.now.next c.args.self.now.ended.items c.args.packet l refl refl no h)

pub returns-in-Rows-clause-stands : goal.returns-in-Rows-clause-stands
returns-in-Rows-clause-stands c =
    let ours : IsFor (receiver_end c.args.self.now) c.args.self.now.next c.args.packet = search rules in
    let e = c.move_on.ensures in
    rw (e.exchange, e.place, e.types, e.ended, e.over, c.requires)
    (λ l h. port-rows (receiver_end c.args.self.now) c.args.self.now.next c.args.self.now.ended.items c.args.packet l refl refl ours c.in-Rows.rows.rows c.in-Rows.rows c.move_on.new.self.next refl c.in-Rows.ensures.1 (rw e.ended at (e.is_open (h.is_open refl))) h)

pub returns-in-End-Fault-clause-stands : goal.returns-in-End-Fault-clause-stands
returns-in-End-Fault-clause-stands c =
    let ours : IsFor (receiver_end c.args.self.now) c.args.self.now.next c.args.packet = search rules in
    rw c.requires (λ l h. port-broken (receiver_end c.args.self.now) c.args.self.now.next c.args.self.now.ended.items c.args.packet l refl refl ours (rw c.in-End-Fault.field-0-is at c.in-End-Fault.ensures) h)

pub returns-then-not-is_expected-clause-pays : goal.returns-then-not-is_expected-clause-pays
returns-then-not-is_expected-clause-pays c k =
    let s = c.args.self.now in
    let w = receiver_want s in
    let g = got.Packet (Some c.args.packet) in
    let more = receiver-grows s k (with_rows w g k) (rows-more w g k) in
    record { rows = omega (arith, more); turns = omega arith }

pub returns-in-Rows-clause-pays : goal.returns-in-Rows-clause-pays
returns-in-Rows-clause-pays c k =
    let s = c.args.self.now in
    let near : s.next < length s.ended.items = search rules in
    let more = sum-more (length s.ended.items) s.next (length (content_rows c.args.packet.content)) k.packets near in
    let rows = ap (λ x. length (content_rows x)) c.in-Rows.ensures.1 in
    rw (c.requires, c.move_on.ensures.ended) (record { rows = omega (arith, more, rows); turns = omega arith })

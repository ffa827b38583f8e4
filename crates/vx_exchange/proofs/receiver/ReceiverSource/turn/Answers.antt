use Rattle.std.proofs.Common.{rules, ◌≡◌, Some, refl, sym, subst}
use Rattle.vx_ports.specs.Packets.{PacketView}
use Rattle.vx_ops.specs.Turn.{Fits}
use Rattle.vx_ops.specs.declared.fault.StreamState.TheVariants.{Running}
use Rattle.vx_ops.specs.declared.turn.Want.TheVariants as want
use Rattle.vx_ops.specs.declared.turn.Got.TheVariants as got
use Rattle.vx_exchange.specs.Receiver.{receiver_end, EndStands}
use Rattle.vx_exchange.proofs.Arrivals.{port-waits, none-taken}
use Rattle.vx_exchange.proofs.receiver.ReceiverSource.turn.Goals as goal
use Rattle.vx_exchange.proofs.receiver.ReceiverSource.turn.Goals.{in_default-via-in-Packet+in_default, in_default-via-in_default}

pub returns-clause-stands : goal.returns-clause-stands
returns-clause-stands c =
    let s = c.args.self.now in
    let g = c.args.got in
    let e = c.move_on.ensures in
    let none : (p : PacketView) → g ≡ got.Packet (Some p) → ⊥ = λ p q. elim c.in_default.branch [
      | in_default-via-in-Packet+in_default w ↦ search rules
      | in_default-via-in_default w ↦ search rules
    ] in
    let fits : Fits (want.Packet s.next) g = rw c.in-Running.is at c.requires.fits in
    rw (e.exchange, e.place, e.types, e.ended, e.over, c.in-Running.is) (λ l h.
    subst (λ k. EndStands (receiver_end s) s.ended.items c.move_on.new.self.next Running k) (sym (none-taken l s.next g fits none))
    (port-waits (receiver_end s) s.next c.move_on.new.self.next s.ended.items l (rw e.ended at (e.is_open (h.is_open refl))) h))

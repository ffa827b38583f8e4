-- Packets that are not for the port at which they come.
use Rattle.std.specs.Prelude.{ℕ, ◌≡◌, Some}
use Rattle.vx_ports.specs.Packets.{PacketView}
use Rattle.vx_ops.specs.Ledger.{Ledger, ConsumerEnd, receive, IsFor, Abides}
use Rattle.vx_ops.specs.Turn.{after}
use Rattle.vx_ops.specs.declared.fault.Code.TheVariants.{Stranger}
use Rattle.vx_ops.specs.declared.fault.Fault.TheVariants.{Own}
use Rattle.vx_ops.specs.declared.fault.StreamState.TheVariants.{Running}
use Rattle.vx_ops.specs.declared.turn.Want.TheVariants as want
use Rattle.vx_ops.specs.declared.turn.Got.TheVariants as got
use Rattle.vx_ops.specs.declared.turn.Polled.{Polled}
use Rattle.vx_ops.specs.declared.turn.Polled.TheVariants as polled

-- whatever a source at a port returned, which ran and got a packet that is not for the port: if what is known of any source
-- holds after that turn, then it returned Stranger at the port's exchange
abbrev pub StrangerLaw : Type 0
StrangerLaw =
    (port : ConsumerEnd) (l : Ledger) (i : ℕ) (p : PacketView) (returned : Polled) → l.gave.over ≡ Running → (IsFor port i p → ⊥)
    → Abides (receive port) (after l (want.Packet i) (got.Packet (Some p)) returned) → returned ≡ polled.Fault (Own Stranger port.exchange)

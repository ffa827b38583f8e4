-- Packets that are not for a port: none came where all are for it, and one that comes is refused.
use Rattle.std.proofs.Common.{◌≡◌, ◌<◌, ℕ, ◌==◌, true, Some, All, List, [], ◌∷◌, ◌++◌, refl, sym, subst, arith, length}
use Rattle.std.proofs.Math.ListN.{get_or}
use Rattle.std.proofs.lemmas.List.Elements.{All-get_or}
use Rattle.vx_ports.specs.Packets.{PacketView}
use Rattle.std.proofs.lemmas.Bool.Decides.{nat_tests}
use Rattle.vx_ops.specs.Ledger.{IsFor, Came}
use Rattle.vx_ops.specs.Turn.{with_packet, after}
use Rattle.vx_ops.specs.Strangers.{StrangerLaw}
use Rattle.vx_ops.specs.declared.fault.Code.TheVariants.{Stranger}
use Rattle.vx_ops.specs.declared.fault.Fault.TheVariants.{Own}
use Rattle.vx_ops.specs.declared.fault.StreamState.TheVariants.{Failed}
use Rattle.vx_ops.specs.declared.turn.Want.TheVariants as want
use Rattle.vx_ops.specs.declared.turn.Got.TheVariants as got
use Rattle.vx_ops.specs.declared.turn.Polled.{Polled}
use Rattle.vx_ops.specs.declared.turn.Polled.TheVariants as polled

at_front : (front back : List PacketView) (p : PacketView) → get_or (front ++ p ∷ back) (length front) p ≡ p
at_front [] back p = refl
at_front (q ∷ front) back p = at_front front back p

within_front : (front back : List PacketView) (p : PacketView) → length front < length (front ++ p ∷ back)
within_front [] back p = omega arith
within_front (q ∷ front) back p = let h = within_front front back p in omega (arith, h)

pub none-came : (P : PacketView → Type 0) (ps : List PacketView) → All P ps → Came (λ p. P p → ⊥) ps → ⊥
none-came P ps all c =
    let all' : All P (c.front ++ c.packet ∷ c.back) = subst (All P) (sym c.joined) all in
    let here : P (get_or (c.front ++ c.packet ∷ c.back) (length c.front) c.packet) = All-get_or P (c.front ++ c.packet ∷ c.back) (length c.front) c.packet (within_front c.front c.back c.packet) all' in
    c.is (subst P (at_front c.front c.back c.packet) here)

eqb-same : (i : ℕ) → (i == i) ≡ true
eqb-same i = grind (arith, nat_tests)

-- the packet that came last is among those that came
pub came-last : (P : PacketView → Type 0) (came : ℕ → List PacketView) (i : ℕ) (p : PacketView) → P p → Came P (with_packet came i (Some p) i)
came-last P came i p h =
    let e : with_packet came i (Some p) i ≡ came i ++ p ∷ [] = rw (eqb-same i) refl in
    subst (Came P) (sym e) (record { front = came i; packet = p; back = []; joined = refl; is = h })

pub stranger-law : StrangerLaw
stranger-law port l i p returned runs strange known = go returned (known.tests i (came-last (λ q. IsFor port i q → ⊥) l.came i p strange))
  where
    go : (a : Polled) → (after l (want.Packet i) (got.Packet (Some p)) a).gave.over ≡ Failed (Own Stranger port.exchange) → a ≡ polled.Fault (Own Stranger port.exchange)
    go (polled.Gave t) e = cc
    go polled.Waiting e = cc
    go polled.End e = cc
    go (polled.Fault f) e = cc

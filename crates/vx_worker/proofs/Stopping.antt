-- The packets with which a worker that failed closes its ports.
use Rattle.std.proofs.Common.{ℕ, zero, suc, ◌≡◌, nat_lt, cond, inl, inr, refl, sym, ap, ◌∙◌, arith, true, false, List, [], ◌∷◌, ◌++◌, Some}
use Rattle.std.proofs.lemmas.Bool.Decides.{eqb_tells, nat_tests}
use Rattle.std.proofs.lemmas.List.Elements.{All-nil, All-push}
use Rattle.std.specs.List.{All}
use Rattle.vx_rows.specs.Lists.{each_below}
use Rattle.vx_ports.specs.Packets.{fault, PacketView, closes}
use Rattle.vx_ops.specs.Turn.{with_packet}
use Rattle.vx_exchange_ends.specs.Ship.{Ship, packet_of}
use Rattle.vx_exchange_ends.specs.Tasks.{Task, send, keep, Post, sends_by_ship, keeps, IsAt}
use Rattle.vx_exchange_ends.specs.Parts.{faulted}
use Rattle.vx_exchange_ends.specs.Closing.{closed_by}
use Rattle.vx_worker.specs.Worker.{with_all, closing_of}

-- the last of the list goes first
pub with_all-push : (put : ℕ → List PacketView) (ps : List PacketView) (p : PacketView) → with_all put (ps ++ p ∷ []) ≡ with_all (with_packet put p.to (Some p)) ps
with_all-push put [] p = refl
with_all-push put (q ∷ ps) p = ap (λ f. with_packet f q.to (Some q)) (with_all-push put ps p)

abbrev faults : Ship → ℕ → List PacketView
faults s n = each_below n (λ i. packet_of s i fault)

with-faults : (s : Ship) (n : ℕ) (put : ℕ → List PacketView) (j : ℕ) → with_all put (faults s n) j ≡ cond (nat_lt j n) (put j ++ packet_of s j fault ∷ []) (put j)
unfolding each_below
with-faults s zero put j = let e : nat_lt j 0 ≡ false = grind (arith, nat_tests) in rw e refl
with-faults s (suc n) put j =
    let f = packet_of s n fault in
    ap (λ (g : ℕ → List PacketView). g j) (with_all-push put (faults s n) f) ∙ with-faults s n (with_packet put n (Some f)) j ∙ elim (eqb_tells j n) [
      | inl e ↦
          let below : nat_lt j n ≡ false = let d : j ≡ n = e.1 in grind (arith, nat_tests) in
          let here : nat_lt j (suc n) ≡ true = let d : j ≡ n = e.1 in grind (arith, nat_tests) in
          rw (below, here, e.0) (ap (λ i. put j ++ packet_of s i fault ∷ []) (sym e.1))
      | inr e ↦
          let same : nat_lt j (suc n) ≡ nat_lt j n = let d : (j ≡ n) → ⊥ = e.1 in grind (arith, nat_tests) in
          rw (same, e.0) refl
    ]

-- all that a worker puts in order to close its ports
pub with-closing : (p : Post) (task : Task) → IsAt p task → (put : ℕ → List PacketView) (j : ℕ) → with_all put (closing_of p) j ≡ faulted task put j
with-closing (sends_by_ship s) (send r) e put j = with-faults s s.consumers put j ∙ ap (λ (z : Ship). closed_by z fault put j) (sym e)
with-closing (sends_by_ship s) (keep rows) e put j = elim e [ ]
with-closing (keeps types) (send r) e put j = elim e [ ]
with-closing (keeps types) (keep rows) e put j = refl

faults-close : (s : Ship) (n : ℕ) → All (λ (p : PacketView). closes p.content ≡ true) (faults s n)
unfolding each_below
faults-close s zero = All-nil (λ (p : PacketView). closes p.content ≡ true)
faults-close s (suc n) = All-push (λ (p : PacketView). closes p.content ≡ true) (faults s n) (packet_of s n fault) (faults-close s n) refl

-- each of them closes
pub closing-closes : (p : Post) → All (λ (q : PacketView). closes q.content ≡ true) (closing_of p)
closing-closes (sends_by_ship s) = faults-close s s.consumers
closing-closes (keeps types) = All-nil (λ (q : PacketView). closes q.content ≡ true)

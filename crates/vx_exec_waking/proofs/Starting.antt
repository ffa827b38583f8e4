-- What stands at the start.
use Rattle.std.proofs.Common.{ℕ, true, ◌≡◌, refl, sym, subst, inl, inr, true≢false, arith}
use Rattle.vx_exec_waking.specs.Crew.{Crew, place_at, packet_of, Doing, going, asleep, WorkerState, RingState, World, WaitsFor}
use Rattle.vx_exec_waking.specs.Waking.{fresh_worker, fresh_ring, Begins, IsStart}
use Rattle.vx_exec_waking.proofs.Standing.{IsEnded, Pair, Own, Stands}

-- how a worker begins
record Beginning (C : Crew) (a : ℕ) (x : WorkerState) : Type 0 where
  d : Doing
  is : x ≡ fresh_worker d
  no_place : (c : ℕ) → WaitsFor (place_at c) d → ⊥
  packet : (p : ℕ) → WaitsFor (packet_of p) d → C.feeds p a ≡ true
  begins : IsEnded d → ⊥

beginning : (C : Crew) (a : ℕ) (x : WorkerState) → Begins C a x → Beginning C a x
beginning C a x (inl e) = record { d = going; is = e; no_place = λ c h. h; packet = λ p h. absurd h; begins = λ h. h }
beginning C a x (inr h) = record {
  d = asleep (packet_of h.0);
  is = h.2;
  no_place = λ c e. not-both c h.0 e;
  packet = λ p e. subst (λ n. C.feeds n a ≡ true) (same h.0 p e) h.1;
  begins = λ b. b;
}
  where
    not-both : (c p : ℕ) → packet_of p ≡ place_at c → ⊥
    not-both c p e = cc

    same : (p q : ℕ) → packet_of p ≡ packet_of q → p ≡ q
    same p q e = cc

pair-begins : (C : Crew) (p c : ℕ) (x y : WorkerState) (r : RingState) → Beginning C p x → Beginning C c y → r ≡ fresh_ring → Pair C.slack p c x y r
pair-begins C p c x y r b g e =
    subst (λ z. Pair C.slack p c z y r) (sym b.is)
    (subst (λ z. Pair C.slack p c (fresh_worker b.d) z r) (sym g.is)
    (subst (λ z. Pair C.slack p c (fresh_worker b.d) (fresh_worker g.d) z) (sym e) (record {
      ring = (omega arith, λ h. absurd (true≢false (sym h)), λ h. absurd (true≢false (sym h)));
      looked = λ l. inr (inr refl);
      place = λ waits. absurd (b.no_place c waits);
      packet = λ waits. (refl, refl, refl);
      producer = (λ s. refl, λ h. cc, λ h. absurd (b.begins h));
      consumer = (λ s. inl refl, λ h. absurd (g.begins h));
    })))

own-begins : (C : Crew) (a : ℕ) (x : WorkerState) → Beginning C a x → Own C a x
own-begins C a x b =
    subst (λ z. Own C a z) (sym b.is) (record { place = λ c waits. absurd (b.no_place c waits); packet = λ p waits. (b.packet p waits, tt) })

pub start-stands : (C : Crew) (w : World) → IsStart C w → Stands C w
start-stands C w s = record {
  pairs = λ p c fed. pair-begins C p c (w.worker p) (w.worker c) (w.ring p c) (beginning C p (w.worker p) (s.workers p)) (beginning C c (w.worker c) (s.workers c)) (s.rings p c);
  own = λ a. own-begins C a (w.worker a) (beginning C a (w.worker a) (s.workers a));
}

-- Where nobody does anything any more, all have ended.
use Rattle.std.proofs.Common.{ℕ, zero, suc, true, false, ◌≡◌, ◌+◌, ◌<◌, ◌≤◌, ◌⊎◌, refl, sym, subst, ◌∙◌, inl, inr, arith, true≢false}
use Rattle.vx_exec_waking.specs.Crew.{Crew, Want, place_at, packet_of, Doing, waking, asleep, ended, World, WaitsFor, IsAsleep, Reads}
use Rattle.vx_exec_waking.specs.Events.{IsEmptied, all_duties, after_all}
use Rattle.vx_exec_waking.specs.Waking.{SleepsOn, AllRest, AllEnded, HasEmptied, NobodyIsLeft, FullHasGathered}
use Rattle.vx_exec_waking.proofs.Standing.{IsEnded, Pair, Stands}
use Rattle.vx_exec_waking.proofs.Keeping.{keeps-all}
use Rattle.vx_exec_waking.proofs.Starting.{start-stands}

waits-now : (x : Want) (d : Doing) → d ≡ asleep x → WaitsFor x d
waits-now x d e = subst (λ z. WaitsFor x z) (sym e) refl

sleeps-now : (x : Want) (d : Doing) → d ≡ asleep x → IsAsleep d
sleeps-now x d e = subst (λ z. IsAsleep z) (sym e) tt

ends-now : (d : Doing) → d ≡ ended → IsEnded d
ends-now d e = subst (λ z. IsEnded z) (sym e) tt

module _ (C : Crew) (w : World) (st : Stands C w) (rest : AllRest C w) where
  -- a producer waits for a place in a ring from which its consumer has taken all that it could: then it has a token
  place-is-free : (p a : ℕ) → C.feeds p a ≡ true → (h : Pair C.slack p a (w.worker p) (w.worker a) (w.ring p a))
      → (w.worker p).doing ≡ asleep (place_at a) → (w.worker p).token ≡ false
      → (q : ℕ) → (w.worker a).doing ≡ asleep (packet_of q) → (w.worker a).token ≡ false → Reads (w.worker a).phase → ⊥
  place-is-free p a fed h sleeps quiet q sleeps' quiet' reading =
      let place = h.place (waits-now (place_at a) (w.worker p).doing sleeps) in
      by-ring place (h.consumer.0 (sleeps-now (packet_of q) (w.worker a).doing sleeps'))
    where
      full : (w.ring p a).packets ≡ 0
          → ((w.worker p).token ≡ true) ⊎ (((w.worker a).doing ≡ waking p) ⊎ ((C.slack ≤ (w.ring p a).packets) ⊎ (0 < (w.ring p a).seen))) → ⊥
      full none (inl t) = true≢false (sym t ∙ quiet)
      full none (inr (inl k)) = cc
      full none (inr (inr (inl f))) = let some = C.some_place in absurd (omega (arith, none, f, some))
      full none (inr (inr (inr s))) = let le = h.ring.0 in absurd (omega (arith, none, s, le))

      by-ring : ((w.ring p a).closed ≡ false) × (((w.worker p).token ≡ true) ⊎ (((w.worker a).doing ≡ waking p) ⊎ ((C.slack ≤ (w.ring p a).packets) ⊎ (0 < (w.ring p a).seen))))
          → IsEmptied (w.worker a) (w.ring p a) p → ⊥
      by-ring place (inl l) = elim (h.looked l) [
        | inl t ↦ true≢false (sym t ∙ quiet')
        | inr z ↦ elim z [
          | inl u ↦ true≢false (sym u ∙ h.producer.0 (sleeps-now (place_at a) (w.worker p).doing sleeps))
          | inr none ↦ full none place.1
        ]
      ]
      by-ring place (inr (inl o)) = true≢false (sym (h.ring.2 o).0 ∙ place.0)
      by-ring place (inr (inr m)) = subst (λ z. Reads z) m.1 reading

  -- so no worker waits for a place: its consumer, nearer to the root, would wait for one, too
  no-place-below : (n p a : ℕ) → p < n → (w.worker p).doing ≡ asleep (place_at a) → (w.worker p).token ≡ false → ⊥
  no-place-below zero p a l sleeps quiet = omega (arith, l)
  no-place-below (suc n) p a l sleeps quiet = go (λ c e t. no-place-below n a c lower e t) (rest a near)
    where
      fed : C.feeds p a ≡ true
      fed = (st.own p).place a (waits-now (place_at a) (w.worker p).doing sleeps)

      h : Pair C.slack p a (w.worker p) (w.worker a) (w.ring p a)
      h = st.pairs p a fed

      near : a < C.size
      near = let k = C.numbered p a fed in omega (arith, k.0, k.1)

      lower : a < n
      lower = let k = C.numbered p a fed in omega (arith, k.0, l)

      go : ((c : ℕ) → (w.worker a).doing ≡ asleep (place_at c) → (w.worker a).token ≡ false → ⊥) → ((w.worker a).doing ≡ ended) ⊎ SleepsOn (w.worker a) → ⊥
      go deeper (inl e) =
          let o = h.consumer.1 (ends-now (w.worker a).doing e) in
          true≢false (sym (h.ring.2 o).0 ∙ (h.place (waits-now (place_at a) (w.worker p).doing sleeps)).0)
      go deeper (inr s) = wants s.0 s.1 s.2
        where
          wants : (x : Want) → (w.worker a).doing ≡ asleep x → (w.worker a).token ≡ false → ⊥
          wants (place_at c) e t = deeper c e t
          wants (packet_of q) e t = place-is-free p a fed h sleeps quiet q e t ((st.own a).packet q (waits-now (packet_of q) (w.worker a).doing e)).1

  -- a worker whose producers have all ended does not wait for a packet
  packet-is-there : (a p : ℕ) → (w.worker a).doing ≡ asleep (packet_of p) → (w.worker a).token ≡ false → (w.worker p).doing ≡ ended → ⊥
  packet-is-there a p sleeps quiet done = go (h.looked k.2)
    where
      waits : WaitsFor (packet_of p) (w.worker a).doing
      waits = waits-now (packet_of p) (w.worker a).doing sleeps

      h : Pair C.slack p a (w.worker p) (w.worker a) (w.ring p a)
      h = st.pairs p a ((st.own a).packet p waits).0

      k : ((w.ring p a).over ≡ false) × ((w.ring p a).queued ≡ 0) × ((w.worker a).looked p ≡ true)
      k = h.packet waits

      e : ((w.ring p a).closed ≡ true) × ((w.worker p).unwoken a ≡ false)
      e = h.producer.2 (ends-now (w.worker p).doing done)

      left : (w.ring p a).packets ≡ 0 → ((w.ring p a).over ≡ true) ⊎ (0 < (w.ring p a).packets + (w.ring p a).queued) → ⊥
      left none (inl o) = true≢false (sym o ∙ k.0)
      left none (inr some) = let q = k.1 in absurd (omega (arith, none, q, some))

      go : ((w.worker a).token ≡ true) ⊎ (((w.worker p).unwoken a ≡ true) ⊎ ((w.ring p a).packets ≡ 0)) → ⊥
      go (inl t) = true≢false (sym t ∙ quiet)
      go (inr (inl u)) = true≢false (sym u ∙ e.1)
      go (inr (inr none)) = left none (h.ring.1 e.0)

  -- from the leaves to the root, whose number is the lowest: all but the lowest m of them have ended, so all have
  all-but : (m : ℕ) → ((a : ℕ) → a < C.size → m ≤ a → (w.worker a).doing ≡ ended) → AllEnded C w
  all-but zero done = λ a l. done a l (omega arith)
  all-but (suc m) done = all-but m (λ a l from. one-more a l from)
    where
      here : (a : ℕ) → a < C.size → a ≡ m → ((w.worker a).doing ≡ ended) ⊎ SleepsOn (w.worker a) → (w.worker a).doing ≡ ended
      here a l e (inl d) = d
      here a l e (inr s) = absurd (wants s.0 s.1 s.2)
        where
          wants : (x : Want) → (w.worker a).doing ≡ asleep x → (w.worker a).token ≡ false → ⊥
          wants (place_at c) sleeps quiet = no-place-below (suc a) a c (omega arith) sleeps quiet
          wants (packet_of p) sleeps quiet =
              let fed = ((st.own a).packet p (waits-now (packet_of p) (w.worker a).doing sleeps)).0 in
              let k = C.numbered p a fed in
              packet-is-there a p sleeps quiet (done p k.1 (omega (arith, k.0, e)))

      one-more : (a : ℕ) → a < C.size → m ≤ a → (w.worker a).doing ≡ ended
      one-more a l from = elim (split a m from) [ inl e ↦ here a l e (rest a l) | inr g ↦ done a l g ]
        where
          split : (b n : ℕ) → n ≤ b → (b ≡ n) ⊎ (suc n ≤ b)
          split b n k = grind arith

  pub rests-ended : AllEnded C w
  rests-ended = all-but C.size (λ a l from. absurd (omega (arith, l, from)))

pub nobody-is-left : NobodyIsLeft
nobody-is-left C w start es may rest = rests-ended C (after_all all_duties C w es) (keeps-all C w es (start-stands C w start) may) rest

gathered : (C : Crew) (w : World) → Stands C w → (a c : ℕ) → (w.worker a).doing ≡ asleep (place_at c) → (w.worker a).refused ≡ false → HasEmptied C w a
gathered C w st a c sleeps kept p fed = by-ring (h.consumer.0 (sleeps-now (place_at c) (w.worker a).doing sleeps))
  where
    h : Pair C.slack p a (w.worker p) (w.worker a) (w.ring p a)
    h = st.pairs p a fed

    by-ring : IsEmptied (w.worker a) (w.ring p a) p → ((w.ring p a).packets ≡ 0) ⊎ (((w.worker a).token ≡ true) ⊎ ((w.worker p).unwoken a ≡ true))
    by-ring (inl l) = elim (h.looked l) [ inl t ↦ inr (inl t) | inr z ↦ elim z [ inl u ↦ inr (inr u) | inr none ↦ inl none ] ]
    by-ring (inr (inl o)) = inl (h.ring.2 o).1
    by-ring (inr (inr m)) = absurd (true≢false (sym m.0 ∙ kept))

pub full-has-gathered : FullHasGathered
full-has-gathered C w start es may a c sleeps kept = gathered C (after_all all_duties C w es) (keeps-all C w es (start-stands C w start) may) a c sleeps kept

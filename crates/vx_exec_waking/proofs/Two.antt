-- A crew of two: a producer and its one consumer, over a ring with one place.
use Rattle.std.proofs.Common.{ℕ, zero, suc, true, false, cond, ◌≡◌, ◌<◌, ◌⊎◌, ◌==◌, ◌&&◌, refl, sym, ap, inl, inr, arith, true≢false, lit≤}
use Rattle.std.proofs.lemmas.Bool.Decides.{eqb_tells}
use Rattle.vx_exec_waking.specs.Crew.{Crew, packet_of, going, asleep, World, with_at}
use Rattle.vx_exec_waking.specs.Waking.{fresh_worker, fresh_ring, Begins, IsStart}
use Rattle.vx_exec_waking.proofs.Tests.{and-cases, test-true}

-- whom it has woken is to be woken no more
pub woken-again : (k c : ℕ) → with_at (with_at (λ b. false) k true) k false c ≡ false
woken-again k c = elim (eqb_tells c k) [ inl e ↦ rw e.0 refl | inr e ↦ rw e.0 refl ]

pub two-feeds : (p c : ℕ) → ((p == 1) && (c == 0)) ≡ true → (p ≡ 1) × (c ≡ 0)
two-feeds p c e = let k = and-cases (p == 1) (c == 0) e in (test-true p 1 k.0, test-true c 0 k.1)

abbrev pub two : Crew
two = record {
  size = 2;
  feeds = λ p c. (p == 1) && (c == 0);
  slack = 1;
  some_place = lit≤ tt;
  numbered = λ p c e. let k = two-feeds p c e in (omega (arith, k.0, k.1), omega (arith, k.0));
}

abbrev pub two-starts : World
two-starts = record { worker = λ a. fresh_worker (cond (a == 0) (asleep (packet_of 1)) going); ring = λ p c. fresh_ring }

pub two-start : IsStart two two-starts
two-start = record { workers = λ a. begins a (eqb_tells a 0); rings = λ p c. refl }
  where
    begins : (a : ℕ) → (((a == 0) ≡ true) × (a ≡ 0)) ⊎ (((a == 0) ≡ false) × (a ≡ 0 → ⊥)) → Begins two a (two-starts.worker a)
    begins a (inl e) = inr (1, e.0, ap (λ b. fresh_worker (cond b (asleep (packet_of 1)) going)) e.0)
    begins a (inr e) = inl (ap (λ b. fresh_worker (cond b (asleep (packet_of 1)) going)) e.0)

pub below-two : (P : ℕ → Type 0) → P 0 → P 1 → (a : ℕ) → a < 2 → P a
below-two P x y zero l = x
below-two P x y (suc zero) l = y
below-two P x y (suc (suc a)) l = absurd (omega (arith, l))

pub no-feeds : (p : ℕ) → ((p == 1) && (1 == 0)) ≡ true → ⊥
no-feeds p e = true≢false (sym (and-cases (p == 1) (1 == 0) e).1)

-- What comes of a crew that leaves out one of its duties: three short runs after which all sleep.
use Rattle.std.proofs.Common.{ℕ, zero, suc, true, false, cond, ◌≡◌, ◌<◌, ◌⊎◌, ◌==◌, ◌&&◌, ◌||◌, refl, sym, subst, inl, inr, arith, true≢false, lit<, lit≤, List, [], ◌∷◌}
use Rattle.std.proofs.lemmas.Bool.Decides.{eqb_tells}
use Rattle.vx_exec_waking.specs.Crew.{Crew, Want, place_at, packet_of, Doing, going, asleep, ended, World}
use Rattle.vx_exec_waking.specs.Events.{Event, puts, finds_full, wakes_consumer, looks, moves, reads, finds_none, parks, wakes_up}
use Rattle.vx_exec_waking.specs.Events.{Duties, IsEmptied, MayAll, after_all}
use Rattle.vx_exec_waking.specs.Waking.{fresh_worker, fresh_ring, Begins, IsStart, SleepsOn, AllRest, GetsStuck, EachDutyIsNeeded}
use Rattle.vx_exec_waking.proofs.Two.{woken-again, two, two-feeds, two-starts, two-start, below-two, no-feeds}
use Rattle.vx_exec_waking.proofs.Tests.{or-cases, and-cases, test-true}

asleep-ended : (x : Want) → asleep x ≡ ended → ⊥
asleep-ended x e = cc

-- ---- without waking the consumer

abbrev silent : Duties
silent = record { wakes_consumers = false; gathers = true; wakes_producers = true }

abbrev silent-run : List Event
silent-run = puts 1 0 ∷ finds_full 1 0 ∷ parks 1 (place_at 0) ∷ []

silent-may : MayAll silent two two-starts silent-run
silent-may = (
  (refl, refl, refl, refl, lit< tt),
  (
    (refl, refl, refl, lit≤ tt),
    ((refl, record { woken = λ e. absurd (true≢false (sym e)); emptied = λ e p fed. absurd (no-feeds p fed) }), tt),
  ),
)

silent-rests : AllRest two (after_all silent two two-starts silent-run)
silent-rests =
    below-two (λ a. (((after_all silent two two-starts silent-run).worker a).doing ≡ ended) ⊎ SleepsOn ((after_all silent two two-starts silent-run).worker a))
    (inr (packet_of 1, refl, refl)) (inr (place_at 0, refl, refl))

stuck-silent : GetsStuck silent
stuck-silent = (two, two-starts, two-start, (silent-run, silent-may, silent-rests, λ all. asleep-ended (packet_of 1) (all 0 (lit< tt))))

-- ---- without waking the producer

abbrev forgetful : Duties
forgetful = record { wakes_consumers = true; gathers = true; wakes_producers = false }

abbrev forgetful-run : List Event
forgetful-run =
    puts 1 0 ∷ finds_full 1 0 ∷ wakes_consumer 1 0 ∷ parks 1 (place_at 0) ∷ wakes_up 0 (packet_of 1) ∷ looks 0 1 ∷ moves 0 1 ∷ reads 0 1 ∷ looks 0 1
    ∷ finds_none 0 1 ∷ parks 0 (packet_of 1) ∷ []

forgetful-may : MayAll forgetful two two-starts forgetful-run
forgetful-may = (
  (refl, refl, refl, refl, lit< tt),
  (
    (refl, refl, refl, lit≤ tt),
    (
      (refl, tt),
      (
        (refl, record { woken = λ e c fed. woken-again 0 c; emptied = λ e p fed. absurd (no-feeds p fed) }),
        (
          (refl, refl),
          (
            (refl, tt),
            (
              (refl, refl, lit< tt),
              (
                (refl, refl, tt, lit< tt),
                (
                  (refl, tt),
                  (
                    (refl, refl, tt, refl, refl, refl),
                    (
                      (refl, record { woken = λ e c fed. refl; emptied = λ e p fed. subst (λ q. IsEmptied ((forgetful-last).worker 0) ((forgetful-last).ring q 0) q) (sym (two-feeds p 0 fed).0) (inl refl) }),
                      tt,
                    ),
                  ),
                ),
              ),
            ),
          ),
        ),
      ),
    ),
  ),
)
  where
    forgetful-last : World
    forgetful-last =
        after_all forgetful two two-starts
        (puts 1 0 ∷ finds_full 1 0 ∷ wakes_consumer 1 0 ∷ parks 1 (place_at 0) ∷ wakes_up 0 (packet_of 1) ∷ looks 0 1 ∷ moves 0 1 ∷ reads 0 1 ∷ looks 0 1
        ∷ finds_none 0 1 ∷ [])

forgetful-rests : AllRest two (after_all forgetful two two-starts forgetful-run)
forgetful-rests =
    below-two (λ a. (((after_all forgetful two two-starts forgetful-run).worker a).doing ≡ ended) ⊎ SleepsOn ((after_all forgetful two two-starts forgetful-run).worker a))
    (inr (packet_of 1, refl, refl)) (inr (place_at 0, refl, refl))

stuck-forgetful : GetsStuck forgetful
stuck-forgetful = (two, two-starts, two-start, (forgetful-run, forgetful-may, forgetful-rests, λ all. asleep-ended (packet_of 1) (all 0 (lit< tt))))

-- ---- two producers that each put to two consumers, and each consumer merges: it waits for one producer while the other's ring to it is full

four-feeds : (p c : ℕ) → (((p == 2) || (p == 3)) && ((c == 0) || (c == 1))) ≡ true → ((p ≡ 2) ⊎ (p ≡ 3)) × ((c ≡ 0) ⊎ (c ≡ 1))
four-feeds p c e =
    let k = and-cases ((p == 2) || (p == 3)) ((c == 0) || (c == 1)) e in
    (either p 2 3 (or-cases (p == 2) (p == 3) k.0), either c 0 1 (or-cases (c == 0) (c == 1) k.1))
  where
    either : (n a b : ℕ) → ((n == a) ≡ true) ⊎ ((n == b) ≡ true) → (n ≡ a) ⊎ (n ≡ b)
    either n a b (inl h) = inl (test-true n a h)
    either n a b (inr h) = inr (test-true n b h)

four-numbered : (p c : ℕ) → (p ≡ 2) ⊎ (p ≡ 3) → (c ≡ 0) ⊎ (c ≡ 1) → (c < p) × (p < 4)
four-numbered p c (inl a) (inl b) = (omega (arith, a, b), omega (arith, a))
four-numbered p c (inl a) (inr b) = (omega (arith, a, b), omega (arith, a))
four-numbered p c (inr a) (inl b) = (omega (arith, a, b), omega (arith, a))
four-numbered p c (inr a) (inr b) = (omega (arith, a, b), omega (arith, a))

abbrev four : Crew
four = record {
  size = 4;
  feeds = λ p c. ((p == 2) || (p == 3)) && ((c == 0) || (c == 1));
  slack = 1;
  some_place = lit≤ tt;
  numbered = λ p c e. let k = four-feeds p c e in four-numbered p c k.0 k.1;
}

abbrev four-begins : ℕ → Doing
four-begins a = cond (a == 0) (asleep (packet_of 3)) (cond (a == 1) (asleep (packet_of 2)) going)

abbrev four-starts : World
four-starts = record { worker = λ a. fresh_worker (four-begins a); ring = λ p c. fresh_ring }

four-start : IsStart four four-starts
four-start = record { workers = λ a. begins a (eqb_tells a 0) (eqb_tells a 1); rings = λ p c. refl }
  where
    begins : (a : ℕ) → (((a == 0) ≡ true) × (a ≡ 0)) ⊎ (((a == 0) ≡ false) × (a ≡ 0 → ⊥)) → (((a == 1) ≡ true) × (a ≡ 1)) ⊎ (((a == 1) ≡ false) × (a ≡ 1 → ⊥))
        → Begins four a (four-starts.worker a)
    begins a (inl e) q = inr (3, rw e.0 refl, rw e.0 refl)
    begins a (inr e) (inl g) = inr (2, rw (e.0, g.0) refl, rw (e.0, g.0) refl)
    begins a (inr e) (inr g) = inl (rw (e.0, g.0) refl)

below-four : (P : ℕ → Type 0) → P 0 → P 1 → P 2 → P 3 → (a : ℕ) → a < 4 → P a
below-four P x y z u zero l = x
below-four P x y z u (suc zero) l = y
below-four P x y z u (suc (suc zero)) l = z
below-four P x y z u (suc (suc (suc zero))) l = u
below-four P x y z u (suc (suc (suc (suc a)))) l = absurd (omega (arith, l))

abbrev greedy : Duties
greedy = record { wakes_consumers = true; gathers = false; wakes_producers = true }

abbrev greedy-run : List Event
greedy-run =
    puts 2 0 ∷ finds_full 2 0 ∷ wakes_consumer 2 0 ∷ parks 2 (place_at 0) ∷ puts 3 1 ∷ finds_full 3 1 ∷ wakes_consumer 3 1 ∷ parks 3 (place_at 1)
    ∷ wakes_up 0 (packet_of 3) ∷ looks 0 3 ∷ finds_none 0 3 ∷ parks 0 (packet_of 3)
    ∷ wakes_up 1 (packet_of 2) ∷ looks 1 2 ∷ finds_none 1 2 ∷ parks 1 (packet_of 2) ∷ []

greedy-may : MayAll greedy four four-starts greedy-run
greedy-may = (
  (refl, refl, refl, refl, lit< tt),
  (
    (refl, refl, refl, lit≤ tt),
    (
      (refl, tt),
      (
        (refl, record { woken = λ e c fed. woken-again 0 c; emptied = λ e. absurd (true≢false (sym e)) }),
        (
          (refl, refl, refl, refl, lit< tt),
          (
            (refl, refl, refl, lit≤ tt),
            (
              (refl, tt),
              (
                (refl, record { woken = λ e c fed. woken-again 1 c; emptied = λ e. absurd (true≢false (sym e)) }),
                (
                  (refl, refl),
                  (
                    (refl, tt),
                    (
                      (refl, refl, tt, refl, refl, refl),
                      (
                        (refl, record { woken = λ e c fed. refl; emptied = λ e. absurd (true≢false (sym e)) }),
                        (
                          (refl, refl),
                          (
                            (refl, tt),
                            (
                              (refl, refl, tt, refl, refl, refl),
                              (
                                (refl, record { woken = λ e c fed. refl; emptied = λ e. absurd (true≢false (sym e)) }),
                                tt,
                              ),
                            ),
                          ),
                        ),
                      ),
                    ),
                  ),
                ),
              ),
            ),
          ),
        ),
      ),
    ),
  ),
)

greedy-rests : AllRest four (after_all greedy four four-starts greedy-run)
greedy-rests =
    below-four (λ a. (((after_all greedy four four-starts greedy-run).worker a).doing ≡ ended) ⊎ SleepsOn ((after_all greedy four four-starts greedy-run).worker a))
    (inr (packet_of 3, refl, refl)) (inr (packet_of 2, refl, refl)) (inr (place_at 0, refl, refl)) (inr (place_at 1, refl, refl))

stuck-greedy : GetsStuck greedy
stuck-greedy = (four, four-starts, four-start, (greedy-run, greedy-may, greedy-rests, λ all. asleep-ended (packet_of 3) (all 0 (lit< tt))))

pub each-duty-is-needed : EachDutyIsNeeded
each-duty-is-needed = (stuck-silent, stuck-greedy, stuck-forgetful)

-- A run of two workers to its end.
use Rattle.std.proofs.Common.{ℕ, true, ◌≡◌, refl, sym, subst, inl, lit<, lit≤, List, [], ◌∷◌}
use Rattle.vx_exec_waking.specs.Crew.{place_at, packet_of, ended}
use Rattle.vx_exec_waking.specs.Events.{Event, puts, closes, finds_full, wakes_consumer, looks, moves, wakes_producer, reads, finds_none, parks, wakes_up, stops, drains, ends}
use Rattle.vx_exec_waking.specs.Events.{all_duties, MayAll, after_all}
use Rattle.vx_exec_waking.specs.Waking.{SomeCrewEnds}
use Rattle.vx_exec_waking.proofs.Two.{woken-again, two, two-feeds, two-starts, two-start, below-two, no-feeds}

-- the producer puts a packet, finds no place for the one that closes, and sleeps; the consumer takes the first, looks, and sleeps; and the same once more
abbrev ending : List Event
ending =
    puts 1 0 ∷ stops 1 ∷ finds_full 1 0 ∷ wakes_consumer 1 0 ∷ parks 1 (place_at 0) ∷ wakes_up 0 (packet_of 1) ∷ looks 0 1 ∷ moves 0 1 ∷ wakes_producer 0 1
    ∷ reads 0 1 ∷ looks 0 1 ∷ finds_none 0 1 ∷ parks 0 (packet_of 1) ∷ wakes_up 1 (place_at 0) ∷ closes 1 0 ∷ wakes_consumer 1 0 ∷ drains 1 ∷ ends 1
    ∷ wakes_up 0 (packet_of 1) ∷ looks 0 1 ∷ moves 0 1 ∷ wakes_producer 0 1 ∷ reads 0 1 ∷ stops 0 ∷ drains 0 ∷ ends 0 ∷ []

at-zero : (P : ℕ → Type 0) → P 0 → (c : ℕ) → two.feeds 1 c ≡ true → P c
at-zero P h c fed = subst P (sym (two-feeds 1 c fed).1) h

at-one : (P : ℕ → Type 0) → P 1 → (p : ℕ) → two.feeds p 0 ≡ true → P p
at-one P h p fed = subst P (sym (two-feeds p 0 fed).0) h

zero-feeds : (c : ℕ) → two.feeds 0 c ≡ true → ⊥
zero-feeds c fed = let e = (two-feeds 0 c fed).0 in cc

ending-may : MayAll all_duties two two-starts ending
ending-may = (
  (refl, refl, refl, refl, lit< tt),
  (
    (refl, refl),
    (
      (refl, refl, refl, lit≤ tt),
      (
        (refl, tt),
        (
          (refl, record { woken = λ e c fed. woken-again 0 c; emptied = λ e p fed. absurd (no-feeds p fed) }),
          (
            (refl, refl),
            (
              (refl, tt),
              (
                (refl, refl, lit< tt),
                (
                  (refl, refl),
                  (
                    (refl, refl, tt, lit< tt),
                    (
                      (refl, tt),
                      (
                        (refl, refl, tt, refl, refl, refl),
                        (
                          (refl, record { woken = λ e c fed. refl; emptied = λ e. at-one _ (inl refl) }),
                          (
                            (refl, refl),
                            (
                              (refl, refl, refl, refl, lit< tt),
                              (
                                (refl, tt),
                                (
                                  (refl, refl, at-zero _ refl),
                                  (
                                    (refl, refl, at-zero _ refl, λ p fed. absurd (no-feeds p fed)),
                                    (
                                      (refl, refl),
                                      (
                                        (refl, tt),
                                        (
                                          (refl, refl, lit< tt),
                                          (
                                            (refl, refl),
                                            (
                                              (refl, refl, tt, lit< tt),
                                              (
                                                (refl, refl),
                                                (
                                                  (refl, refl, λ c fed. absurd (zero-feeds c fed)),
                                                  (
                                                    (refl, refl, λ c fed. refl, at-one _ refl),
                                                    tt,
                                                  ),
                                                ),
                                              ),
                                            ),
                                          ),
                                        ),
                                      ),
                                    ),
                                  ),
                                ),
                              ),
                            ),
                          ),
                        ),
                      ),
                    ),
                  ),
                ),
              ),
            ),
          ),
        ),
      ),
    ),
  ),
)

pub some-crew-ends : SomeCrewEnds
some-crew-ends =
    (two, two-starts, two-start, refl, refl, refl, (ending, ending-may, below-two (λ a. ((after_all all_duties two two-starts ending).worker a).doing ≡ ended) refl refl))

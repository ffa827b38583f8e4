-- A round over one worker more.
use Rattle.std.proofs.Common.{ℕ, ◌≡◌, ◌<◌, ◌+◌, ◌&&◌, ◌↔◌, Bool, true, false, List, length, refl, sym, subst, arith, inl, inr, true≢false}
use Rattle.std.specs.List.{All}
use Rattle.std.proofs.lemmas.Bool.{cases_eq}
use Rattle.vx_worker.specs.declared.worker.Worker.{Worker}
use Rattle.vx_exec_steps.specs.Verdicts.{HasEnded, EndsAt, SameBut}

-- the workers below number n have ended, where the flag says so, and else one has not
pub record FlagIs {O S : Type 0} (ws : List (Worker O S)) (n : ℕ) (flag : Bool) : Type 0 where
  pub ended : flag ≡ true → (k : ℕ) → k < n → EndsAt ws k
  pub goes_on : flag ≡ false → (k : ℕ) × (k < n) × (EndsAt ws k → ⊥)

kept : {O S : Type 0} (n k : ℕ) (old new : List (Worker O S)) → SameBut n old new → (k ≡ n → ⊥) → EndsAt old k → EndsAt new k
kept n k old new same ne h d = subst HasEnded (sym (same k d ne)) (h d)

back : {O S : Type 0} (n k : ℕ) (old new : List (Worker O S)) → SameBut n old new → (k ≡ n → ⊥) → EndsAt new k → EndsAt old k
back n k old new same ne h d = subst HasEnded (same k d ne) (h d)

pub flag-more : {O S : Type 0} (n : ℕ) (old new : List (Worker O S)) (a b : Bool) → SameBut n old new → ((b ≡ true) ↔ EndsAt new n) → FlagIs old n a → FlagIs new (n + 1) (a && b)
flag-more n old new true true same here h = record {
  ended = λ e k l. elim (cases_eq k n) [
    | inl q ↦ subst (EndsAt new) (sym q) (here.0 refl)
    | inr q ↦ kept n k old new same q (h.ended refl k (omega (arith, l, q)))
  ];
  goes_on = λ e. absurd (true≢false e);
}
flag-more n old new true false same here h = record {
  ended = λ e. absurd (true≢false (sym e));
  goes_on = λ e. (n, omega arith, λ x. true≢false (sym (here.1 x)));
}
flag-more n old new false b same here h = record {
  ended = λ e. absurd (true≢false (sym e));
  goes_on = λ e.
      let x = h.goes_on refl in
      let l = x.1 in
      (x.0, omega (arith, l), λ y. x.2 (back n x.0 old new same (λ q. absurd (omega (arith, l, q))) y));
}

-- of all workers the flag says whether all have ended
pub all-ended : {O S : Type 0} (ws : List (Worker O S)) (n : ℕ) (flag : Bool) → n ≡ length ws → FlagIs ws n flag → (flag ≡ true) ↔ All HasEnded ws
all-ended ws n true same h = (λ e. λ k d l. h.ended refl k (omega (arith, l, same)) d, λ x. refl)
all-ended ws n false same h = (
  λ e. absurd (true≢false (sym e)),
  λ x.
      let none = h.goes_on refl in
      let l = none.1 in
      absurd (none.2 (λ d. x none.0 d (omega (arith, l, same)))),
)

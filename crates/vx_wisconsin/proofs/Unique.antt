-- The first column: below the number of rows, and in no two rows the same.
use Rattle.std.proofs.Common.{◌≡◌, ℕ, ◌+◌, ◌/◌, ◌%◌, ◌<◌, refl, arith, inl, inr}
use Rattle.std.proofs.lemmas.Bool.{eq-eqb, ne_eqb, cases_eq}
use Rattle.vx_wisconsin.specs.Wisconsin.{unique1}

in-even : (n i : ℕ) → i % 2 ≡ 0 → unique1 n i ≡ i / 2
unfolding unique1
in-even n i e = rw (eq-eqb (i % 2) 0 e) refl

in-odd : (n i : ℕ) → (i % 2 ≡ 0 → ⊥) → unique1 n i ≡ (n + 1) / 2 + i / 2
unfolding unique1
in-odd n i e = rw (ne_eqb (i % 2) 0 e) refl

pub unique1-below : (n i : ℕ) → i < n → unique1 n i < n
unique1-below n i h =
    elim (cases_eq (i % 2) 0) [
      | inl e ↦ let u = in-even n i e in omega arith
      | inr e ↦ let u = in-odd n i e in omega arith
    ]

pub unique1-apart : (n i j : ℕ) → i < j → j < n → unique1 n j ≡ unique1 n i → ⊥
unique1-apart n i j l m same =
    elim (cases_eq (i % 2) 0) [
      | inl e ↦
          let u = in-even n i e in
          elim (cases_eq (j % 2) 0) [
            | inl f ↦ let v = in-even n j f in omega arith
            | inr f ↦ let v = in-odd n j f in omega arith
          ]
      | inr e ↦
          let u = in-odd n i e in
          elim (cases_eq (j % 2) 0) [
            | inl f ↦ let v = in-even n j f in omega arith
            | inr f ↦ let v = in-odd n j f in omega arith
          ]
    ]

-- The widths once a row has been looked at.
use Rattle.std.proofs.Common.{◌≡◌, ℕ, ◌≤◌, List, [], ◌∷◌, ◌++◌, refl, ap, ◌∙◌, arith, append-nil, drop, take, length, inl, inr}
use Rattle.std.specs.Prelude.{min}
use Rattle.std.proofs.lemmas.Bool.{cases_lt}
use Rattle.std.proofs.lemmas.List.{drop_all, take_all, take-append-drop}
use Rattle.vx_rows_values.specs.Values.{Row}
use Rattle.vx_catalog_formats.specs.Table.{widened}

-- a row without values changes no width
widened_none : (widths : List ℕ) → widened widths [] ≡ widths
widened_none [] = refl
widened_none (x ∷ xs) = refl

-- nothing is left to be widened
pub widen_done : (widths : List ℕ) (row : Row) (i : ℕ) → min (length widths) (length row) ≤ i → take i widths ++ widened (drop i widths) (drop i row) ≡ widths
widen_done widths row i past =
    elim (cases_lt i (length widths)) [
      | inl near ↦
          ap (λ r. take i widths ++ widened (drop i widths) r) (drop_all i row (omega (arith, near, past)))
          ∙ (ap (λ ws. take i widths ++ ws) (widened_none (drop i widths)) ∙ take-append-drop i widths)
      | inr far ↦
          ap (λ ws. take i widths ++ widened ws (drop i row)) (drop_all i widths (omega (arith, far)))
          ∙ (append-nil (take i widths) ∙ take_all i widths (omega (arith, far)))
    ]

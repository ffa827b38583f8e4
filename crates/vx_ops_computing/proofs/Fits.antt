-- Tests of all rows, row by row.
use Rattle.std.proofs.Common.{◌≡◌, ℕ, zero, suc, ◌<◌, Bool, true, false, ◌&&◌, List, [], ◌∷◌, length, get_or, refl, ap, arith}
use Rattle.std.specs.List.{list_all}
use Rattle.vx_rows_values.proofs.Booleans.{and-both}
use Rattle.vx_rows_values.specs.Values.{Row}

pub all-fit : (fits : Row → Bool) (xs : List Row) → ((k : ℕ) → k < length xs → fits (get_or xs k []) ≡ true) → list_all fits xs ≡ true
all-fit fits [] h = refl
all-fit fits (x ∷ xs) h = and-both (fits x) (list_all fits xs) (h zero (omega arith)) (all-fit fits xs (λ k l. h (suc k) (omega arith)))

and-right-false : (a b : Bool) → b ≡ false → (a && b) ≡ false
and-right-false true b e = e
and-right-false false b e = refl

pub one-unfit : (fits : Row → Bool) (xs : List Row) (k : ℕ) → k < length xs → fits (get_or xs k []) ≡ false → list_all fits xs ≡ false
one-unfit fits [] k l e = absurd (omega arith)
one-unfit fits (x ∷ xs) zero l e = ap (λ b. b && list_all fits xs) e
one-unfit fits (x ∷ xs) (suc k) l e = and-right-false (fits x) (list_all fits xs) (one-unfit fits xs k (omega arith) e)

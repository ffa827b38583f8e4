-- The same rows, each as often: equal totals, equal counts, and a permutation are one.
use Rattle.std.proofs.Common.{◌≡◌, ℕ, ◌<◌, Bool, true, false, cond, List, [], ◌∷◌, refl, sym, ◌∙◌, subst, arith, IsPermutation, sum_by}
use Rattle.std.proofs.lemmas.List.Sorted.{IsPermutation-refl, IsPermutation-cons, IsPermutation-trans, IsPermutation-sym, IsPermutation-swap, sum_by-IsPermutation}
use Rattle.std.proofs.lemmas.List.Recursion.{is_sum_by}
use Rattle.vx_rows_values.specs.Values.{Row, row_eq}
use Rattle.vx_rows_values.specs.Bags.{total, count, SameRows}
use Rattle.vx_exec_laws.proofs.Apart.{remove_one, removed-total, flag-no, self-counts, nothing-same}
use Rattle.vx_rows_values.proofs.Compare.{row_eq-same}

total-sum_by : (f : Row → ℕ) (xs : List Row) → total f xs ≡ sum_by f xs
total-sum_by f xs = is_sum_by (total f) f refl (λ _ _. refl) xs

pub IsPermutation-same : (xs ys : List Row) → IsPermutation xs ys → SameRows xs ys
IsPermutation-same xs ys p = record { totals = λ f. total-sum_by f xs ∙ (sym (sum_by-IsPermutation f xs ys p) ∙ sym (total-sum_by f ys)) }

swap-front : (x y : Row) (ys : List Row) → IsPermutation (x ∷ y ∷ ys) (y ∷ x ∷ ys)
swap-front x y ys = IsPermutation-swap (x ∷ y ∷ ys) (y ∷ x ∷ ys) 0 1 (omega arith) (omega arith) refl

removed-permutation : (x : Row) (ys : List Row) → 0 < count (row_eq x) ys → IsPermutation ys (x ∷ remove_one x ys)
unfolding remove_one
removed-permutation x [] h = absurd (omega arith)
removed-permutation x (y ∷ ys) h = cases (row_eq x y) refl (removed-permutation x ys)
  where
    cases : (b : Bool) → row_eq x y ≡ b → (0 < count (row_eq x) ys → IsPermutation ys (x ∷ remove_one x ys)) → IsPermutation (y ∷ ys) (x ∷ cond b ys (y ∷ remove_one x ys))
    cases true e ih =
        let P : Row → Type 0 = λ v. IsPermutation (v ∷ ys) (x ∷ ys) in
        subst P (row_eq-same x y e) (IsPermutation-refl (x ∷ ys))
    cases false e ih =
        let z = flag-no (row_eq x y) e in
        IsPermutation-trans (y ∷ ys) (y ∷ x ∷ remove_one x ys) (x ∷ y ∷ remove_one x ys)
        (IsPermutation-cons y ys (x ∷ remove_one x ys) (ih (omega (arith, z, h))))
        (swap-front y x (remove_one x ys))

pub same-IsPermutation : (xs ys : List Row) → SameRows xs ys → IsPermutation xs ys
same-IsPermutation [] [] s = IsPermutation-refl []
same-IsPermutation [] (y ∷ ys) s = absurd (nothing-same y ys s)
same-IsPermutation (x ∷ xs) ys s =
    let k = self-counts x xs in
    let e = s.totals (λ r. cond (row_eq x r) 1 0) in
    let some : 0 < count (row_eq x) ys = omega (arith, e, k) in
    let tails : SameRows xs (remove_one x ys) = record { totals = λ f. let a = s.totals f in let b = removed-total f x ys some in omega (arith, a, b) } in
    IsPermutation-trans (x ∷ xs) (x ∷ remove_one x ys) ys
    (IsPermutation-cons x xs (remove_one x ys) (same-IsPermutation xs (remove_one x ys) tails))
    (IsPermutation-sym ys (x ∷ remove_one x ys) (removed-permutation x ys some))

-- Several rows of one stream are given.
use Rattle.std.proofs.Common.{ℕ, zero, suc, ◌≡◌, ◌≢◌, ◌<◌, ◌≤◌, ◌+◌, ◌==◌, inl, inr, refl, sym, ap, ◌∙◌, arith, subst, List, [], ◌∷◌, ◌++◌, Bool, true, length, get_or, take, drop, drop-cons, append-nil, append_assoc, is_le}
use Rattle.std.specs.List.{AllByRecursion}
use Rattle.std.proofs.lemmas.Bool.Decides.{nat_tests, eqb_tells}
use Rattle.vx_rows_values.specs.declared.order.OrderEntry.{OrderEntry}
use Rattle.vx_rows_values.specs.Values.{Row}
use Rattle.vx_rows_values.specs.Order.{compare_on}
use Rattle.vx_plan_nodes.specs.Streams.{Streams}
use Rattle.vx_exchange_receivers.specs.Merged.{with_more, instead, Merged, IsLeast}
use Rattle.vx_exchange_receivers.proofs.Merging.{least-goes, same-merged}
use Rattle.vx_exchange_receivers.proofs.HeadFacts.{le-refl}

eqb-same : (i : ℕ) → (i == i) ≡ true
eqb-same i = grind (arith, nat_tests)

pub more-there : (s : Streams) (p : ℕ) (xs : List Row) → with_more s p xs p ≡ s p ++ xs
more-there s p xs = rw (eqb-same p) refl

pub more-other : (s : Streams) (p j : ℕ) (xs : List Row) → j ≢ p → with_more s p xs j ≡ s j
more-other s p j xs ne = elim (eqb_tells j p) [ inl e ↦ absurd (ne e.1) | inr e ↦ rw e.0 refl ]

pub instead-there : (s : Streams) (p : ℕ) (xs : List Row) → instead s p xs p ≡ xs
instead-there s p xs = rw (eqb-same p) refl

pub instead-other : (s : Streams) (p j : ℕ) (xs : List Row) → j ≢ p → instead s p xs j ≡ s j
instead-other s p j xs ne = elim (eqb_tells j p) [ inl e ↦ absurd (ne e.1) | inr e ↦ rw e.0 refl ]

pub each-in-range : (P : Row → Type 0) (xs : List Row) (n at : ℕ) → at + n ≤ length xs → ((k : ℕ) → at ≤ k → k < at + n → P (get_or xs k [])) → AllByRecursion P (take n (drop at xs))
each-in-range P xs zero at l h = tt
each-in-range P xs (suc n) at l h =
    let near : at < length xs = omega (arith, l) in
    let e : drop at xs ≡ get_or xs at [] ∷ drop (suc at) xs = drop-cons xs at [] near in
    let rest : AllByRecursion P (take n (drop (suc at) xs)) = each-in-range P xs n (suc at) (omega (arith, l)) (λ k a b. h k (omega (arith, a)) (omega (arith, b))) in
    subst (λ ys. AllByRecursion P (take (suc n) ys)) (sym e) (h at (omega arith) (omega arith), rest)

-- rows of stream p, none of which is greater than the next row of another one
pub run-goes : (n : ℕ) (merge : List OrderEntry) (ended : ℕ → Bool) (p : ℕ) → p < n → (run rest : List Row) (taken left : Streams) (given : List Row) → Merged n merge ended taken left given
    → left p ≡ run ++ rest → ((j : ℕ) → j < n → j ≢ p → left j ≡ [] → ended j ≡ true)
    → ((j : ℕ) → j < n → j ≢ p → (y : Row) (ys : List Row) → left j ≡ y ∷ ys → AllByRecursion (λ x. is_le (compare_on merge x y) ≡ true) run)
    → Merged n merge ended (with_more taken p run) (instead left p rest) (given ++ run)
run-goes n merge ended p lt [] rest taken left given m e hold least =
    subst (λ xs. Merged n merge ended (with_more taken p []) (instead left p rest) xs) (sym (append-nil given))
    (same-merged n merge ended ended taken left (with_more taken p []) (instead left p rest) given (λ j h f. f)
    (λ j. elim (eqb_tells j p) [ inl f ↦ rw f.0 (sym (append-nil (taken j))) | inr f ↦ rw f.0 refl ])
    (λ j. elim (eqb_tells j p) [ inl f ↦ rw f.0 (ap left f.1 ∙ e) | inr f ↦ rw f.0 refl ]) m)
run-goes n merge ended p lt (x ∷ run) rest taken left given m e hold least =
    let l : IsLeast n merge ended left p x (run ++ rest) = record {
      in_range = lt;
      head = e;
      at_hand = λ j h f. elim (eqb_tells j p) [ inl g ↦ absurd (some (left j) f (ap left g.1 ∙ e)) | inr g ↦ hold j h g.1 f ];
      least = λ j h y ys f. elim (eqb_tells j p) [
        | inl g ↦ let s : x ≡ y = first (left j) y ys (ap left g.1 ∙ e) f in subst (λ z. is_le (compare_on merge x z) ≡ true) s (le-refl merge x)
        | inr g ↦ (least j h g.1 y ys f).0
      ];
    } in
    let step = least-goes n merge ended taken left given m p x (run ++ rest) l in
    let more = run-goes n merge ended p lt run rest (with_more taken p (x ∷ [])) (instead left p (run ++ rest)) (given ++ x ∷ []) step (instead-there left p (run ++ rest))
    (λ j h ne f. hold j h ne (sym (instead-other left p j (run ++ rest) ne) ∙ f))
    (λ j h ne y ys f. (least j h ne y ys (sym (instead-other left p j (run ++ rest) ne) ∙ f)).1) in
    subst (λ xs. Merged n merge ended (with_more taken p (x ∷ run)) (instead left p rest) xs) (append_assoc given (x ∷ []) run)
    (same-merged n merge ended ended _ _ (with_more taken p (x ∷ run)) (instead left p rest) _ (λ j h f. f)
    (λ j. elim (eqb_tells j p) [ inl f ↦ rw f.0 (append_assoc (taken j) (x ∷ []) run) | inr f ↦ rw f.0 refl ])
    (λ j. elim (eqb_tells j p) [ inl f ↦ rw f.0 refl | inr f ↦ rw f.0 refl ]) more)
  where
    some : (xs : List Row) → xs ≡ [] → xs ≡ x ∷ (run ++ rest) → ⊥
    some xs a b = cc

    first : (xs : List Row) (y : Row) (ys : List Row) → xs ≡ x ∷ (run ++ rest) → xs ≡ y ∷ ys → x ≡ y
    first xs y ys a b = cc

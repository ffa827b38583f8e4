-- The bounds that are not above a value come before those that are.
use Rattle.std.proofs.Common.{ℕ, zero, suc, ◌≡◌, ◌+◌, ◌<◌, ◌≤◌, ◌&&◌, Bool, true, false, true≢false, List, [], ◌∷◌, length, get_or, refl, sym, ap, ◌∙◌, subst, arith, is_le, is_lt, Ordering, Less, Equal, Greater, inl, inr}
use Rattle.std.specs.Prelude.{cond}
use Rattle.std.specs.List.{list_all}
use Rattle.std.proofs.lemmas.Bool.{cases_lt}
use Rattle.std.proofs.lemmas.Cmp.{upto}
use Rattle.vx_rows_values.specs.Values.{Val, val_cmp}
use Rattle.vx_rows_values.specs.Bags.{count}
use Rattle.vx_rows_values.proofs.Compare.{val_cmp_total, not_gt-le, le-not_gt}
use Rattle.vx_plan_nodes.specs.Typed.{rises}

le-trans : (a b c : Val) → is_le (val_cmp a b) ≡ true → is_le (val_cmp b c) ≡ true → is_le (val_cmp a c) ≡ true
le-trans a b c h k = le-not_gt _ (upto val_cmp_total a b c (not_gt-le _ h) (not_gt-le _ k))

lt-le : (o : Ordering) → is_lt o ≡ true → is_le o ≡ true
lt-le Less h = refl
lt-le Equal h = refl
lt-le Greater h = absurd (true≢false (sym h))

pub not_greater : (o : Ordering) → (o ≡ Greater → ⊥) → is_le o ≡ true
not_greater Less h = refl
not_greater Equal h = refl
not_greater Greater h = absurd (h refl)

both : (a b : Bool) → (a && b) ≡ true → (a ≡ true) × (b ≡ true)
both true b h = (refl, h)
both false b h = absurd (true≢false (sym h))

above-first : (b : Val) (bs : List Val) (j : ℕ) (d : Val) → list_all (λ x. is_lt (val_cmp b x)) bs ≡ true → j < length bs → is_le (val_cmp b (get_or bs j d)) ≡ true
above-first b [] j d h l = absurd (omega (arith, l))
above-first b (x ∷ bs) zero d h l = lt-le (val_cmp b x) (both (is_lt (val_cmp b x)) (list_all (λ y. is_lt (val_cmp b y)) bs) h).0
above-first b (x ∷ bs) (suc j) d h l = above-first b bs j d (both (is_lt (val_cmp b x)) (list_all (λ y. is_lt (val_cmp b y)) bs) h).1 (omega (arith, l))

-- a later bound is above
later : (bs : List Val) (i j : ℕ) (d : Val) → rises bs ≡ true → i < j → j < length bs → is_le (val_cmp (get_or bs i d) (get_or bs j d)) ≡ true
later [] i j d h l n = absurd (omega (arith, n))
later (b ∷ bs) i zero d h l n = absurd (omega (arith, l))
later (b ∷ bs) zero (suc j) d h l n = above-first b bs j d (both (list_all (λ x. is_lt (val_cmp b x)) bs) (rises bs) h).0 (omega (arith, n))
later (b ∷ bs) (suc i) (suc j) d h l n = later bs i j d (both (list_all (λ x. is_lt (val_cmp b x)) bs) (rises bs) h).1 (omega (arith, l)) (omega (arith, n))

-- up to a bound that is not above the value, none is
pub still-not_above : (bs : List Val) (v : Val) (m : ℕ) (d : Val) → rises bs ≡ true → m < length bs → is_le (val_cmp (get_or bs m d) v) ≡ true
    → (k : ℕ) → k < m + 1 → is_le (val_cmp (get_or bs k d) v) ≡ true
still-not_above bs v m d h n le k l = elim (cases_lt k m) [
  | inl less ↦ le-trans (get_or bs k d) (get_or bs m d) v (later bs k m d h less n) le
  | inr more ↦ let e : m ≡ k = omega (arith, l, more) in let P : ℕ → Type 0 = λ i. is_le (val_cmp (get_or bs i d) v) ≡ true in subst P e le
]

not-true : (b : Bool) → (b ≡ true → ⊥) → b ≡ false
not-true true h = absurd (h refl)
not-true false h = refl

-- and from one that is, all are
pub still-above : (bs : List Val) (v : Val) (m : ℕ) (d : Val) → rises bs ≡ true → is_le (val_cmp (get_or bs m d) v) ≡ false
    → (k : ℕ) → m ≤ k → k < length bs → is_le (val_cmp (get_or bs k d) v) ≡ false
still-above bs v m d h gt k l n = elim (cases_lt m k) [
  | inl less ↦ not-true (is_le (val_cmp (get_or bs k d) v)) (λ le. true≢false (sym (le-trans (get_or bs m d) (get_or bs k d) v (later bs m k d h less n) le) ∙ gt))
  | inr more ↦ let e : m ≡ k = omega (arith, l, more) in let P : ℕ → Type 0 = λ i. is_le (val_cmp (get_or bs i d) v) ≡ false in subst P e gt
]

abbrev bit : Bool → ℕ
bit b = cond b 1 0

none-pass : (p : Val → Bool) (bs : List Val) (d : Val) → ((k : ℕ) → k < length bs → p (get_or bs k d) ≡ false) → count p bs ≡ 0
none-pass p [] d h = refl
none-pass p (b ∷ bs) d h =
    let first : bit (p b) ≡ 0 = ap bit (h 0 (omega arith)) in
    let rest = none-pass p bs d (λ k l. h (suc k) (omega (arith, l))) in
    omega (arith, first, rest)

-- how many pass, where just the first ones do
pub count-split : (p : Val → Bool) (bs : List Val) (m : ℕ) (d : Val) → m ≤ length bs → ((k : ℕ) → k < m → p (get_or bs k d) ≡ true) → ((k : ℕ) → m ≤ k → k < length bs → p (get_or bs k d) ≡ false)
    → count p bs ≡ m
count-split p bs zero d l h g = none-pass p bs d (λ k n. g k (omega arith) n)
count-split p [] (suc m) d l h g = absurd (omega (arith, l))
count-split p (b ∷ bs) (suc m) d l h g =
    let first : bit (p b) ≡ 1 = ap bit (h 0 (omega arith)) in
    let rest = count-split p bs m d (omega (arith, l)) (λ k n. h (suc k) (omega (arith, n))) (λ k n q. g (suc k) (omega (arith, n)) (omega (arith, q))) in
    omega (arith, first, rest)

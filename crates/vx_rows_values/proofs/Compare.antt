-- The order on rows is a total order, and equal rows are one.
use Rattle.std.proofs.Common.{◌≡◌, ℕ, ◌+◌, ◌≤◌, Bool, true, false, cond, ◌&&◌, ◌⊎◌, inl, inr, ⊎_elim, List, [], ◌∷◌, refl, sym, ap, ◌∙◌, arith, true≢false, is_le, is_gt, is_eq, Ordering, Less, Equal, Greater}
use Rattle.std.specs.Ordering.{ordering_reverse}
use Rattle.std.proofs.lemmas.Cmp.{upto}
pub use Rattle.vx_rows_values.specs.Equality.{val_cmp_total, row_cmp_total, val_cmp-same, is_eq-Equal, row_eq-same, row_eq-laws}
use Rattle.std.specs.Ordering.{ordering_then}
use Rattle.std.specs.Cmp.{IsTotalOrder, back_total}
use Rattle.std.specs.Cmp.Derive.{point_total}
use Rattle.std.proofs.lemmas.Cmp.{on_total, then_total}
use Rattle.vx_rows_values.specs.declared.order.OrderEntry.{OrderEntry}
use Rattle.vx_rows_values.specs.Values.{Val, Row, val_cmp, row_cmp, row_eq, value_at, pick}
use Rattle.vx_rows_values.specs.Order.{rising, order_columns, compare_values, compare_on, agree}
use Rattle.vx_rows_values.specs.Bags.{count}

reverse_eq : (o : Ordering) → is_eq (ordering_reverse o) ≡ is_eq o
reverse_eq Less = refl
reverse_eq Equal = refl
reverse_eq Greater = refl

then_eq : (o p : Ordering) → is_eq (ordering_then o p) ≡ (is_eq o && is_eq p)
then_eq Less p = refl
then_eq Equal p = refl
then_eq Greater p = refl

pub row_eq-refl : (a : Row) → row_eq a a ≡ true
row_eq-refl a = row_eq-laws.refl a

pub not_gt-le : (o : Ordering) → is_le o ≡ true → is_gt o ≡ false
not_gt-le Less h = refl
not_gt-le Equal h = refl
not_gt-le Greater h = absurd (true≢false (sym h))

pub le-not_gt : (o : Ordering) → is_gt o ≡ false → is_le o ≡ true
le-not_gt Less h = refl
le-not_gt Equal h = refl
le-not_gt Greater h = absurd (true≢false h)

pub le-reverse : (o p : Ordering) → o ≡ ordering_reverse p → is_le o ≡ false → is_le p ≡ true
le-reverse o Less e h = refl
le-reverse o Equal e h = refl
le-reverse o Greater e h = let b : is_le o ≡ true = ap is_le e in absurd (true≢false (sym b ∙ h))

pub row_le-trans : (a b c : Row) → is_le (row_cmp a b) ≡ true → is_le (row_cmp b c) ≡ true → is_le (row_cmp a c) ≡ true
row_le-trans a b c h k = le-not_gt _ (upto row_cmp_total a b c (not_gt-le _ h) (not_gt-le _ k))

pub row_le-other : (a b : Row) → is_le (row_cmp a b) ≡ false → is_le (row_cmp b a) ≡ true
row_le-other a b h = le-reverse (row_cmp a b) (row_cmp b a) (row_cmp_total.antisymm a b) h

values_total : (falling : Bool) → IsTotalOrder (compare_values falling)
values_total false = val_cmp_total
values_total true = back_total val_cmp_total

-- an order compares rows as a total order does, which does not tell apart rows that agree on its columns
pub compare_on_total : (order : List OrderEntry) → IsTotalOrder (compare_on order)
compare_on_total [] = point_total
compare_on_total (e ∷ order) = then_total (on_total (λ row. value_at row e.column) (values_total e.falling)) (compare_on_total order)

pub le-trans : (order : List OrderEntry) (a b c : Row) → is_le (compare_on order a b) ≡ true → is_le (compare_on order b c) ≡ true → is_le (compare_on order a c) ≡ true
le-trans order a b c h k = le-not_gt _ (upto (compare_on_total order) a b c (not_gt-le _ h) (not_gt-le _ k))

pub le-other : (order : List OrderEntry) (a b : Row) → is_le (compare_on order a b) ≡ false → is_le (compare_on order b a) ≡ true
le-other order a b h = le-reverse (compare_on order a b) (compare_on order b a) ((compare_on_total order).antisymm a b) h

-- rows that no entry tells apart agree on the columns
values_eq : (falling : Bool) (x y : Val) → is_eq (compare_values falling x y) ≡ is_eq (val_cmp x y)
values_eq false x y = refl
values_eq true x y = ap is_eq (val_cmp_total.antisymm y x) ∙ reverse_eq (val_cmp x y)

pub compare_on-agree : (order : List OrderEntry) (a b : Row) → is_eq (compare_on order a b) ≡ agree (order_columns order) a b
compare_on-agree [] a b = refl
compare_on-agree (e ∷ order) a b =
    then_eq _ _ ∙ (ap (λ c. c && is_eq (compare_on order a b)) (values_eq e.falling (value_at a e.column) (value_at b e.column))
    ∙ (ap (λ c. is_eq (val_cmp (value_at a e.column) (value_at b e.column)) && c) (compare_on-agree order a b) ∙ sym (then_eq _ _)))

-- on rising columns rows compare as the lists of their values there
pub compare_on-rising : (cols : List ℕ) (a b : Row) → compare_on (rising cols) a b ≡ row_cmp (pick cols a) (pick cols b)
compare_on-rising [] a b = refl
compare_on-rising (c ∷ cols) a b = ap (ordering_then (val_cmp (value_at a c) (value_at b c))) (compare_on-rising cols a b)

pub rising-agree : (cols : List ℕ) (a b : Row) → is_eq (compare_on (rising cols) a b) ≡ agree cols a b
rising-agree cols a b = ap is_eq (compare_on-rising cols a b)

pub rising-columns : (cols : List ℕ) → order_columns (rising cols) ≡ cols
rising-columns [] = refl
rising-columns (c ∷ cols) = ap (λ cs. c ∷ cs) (rising-columns cols)

-- two rows that agree with a third agree
pub agree-both : (cs : List ℕ) (a b c : Row) → agree cs a b ≡ true → agree cs a c ≡ true → agree cs b c ≡ true
agree-both cs a b c h k = sym (row_eq-laws.congr (pick cs a) (pick cs b) (pick cs c) h) ∙ k

-- where a test that some row passes counts one row at most, so does it in any case
pub count-witness : {X : Type 0} (p : X → Bool) (xs : List X) → ((x : X) → p x ≡ true → count p xs ≤ 1) → count p xs ≤ 1
count-witness p xs h = ⊎_elim (λ z. omega arith) (λ w. h w.0 w.1) (find p xs)
  where
    pick_one : {X : Type 0} (p : X → Bool) (x : X) (xs : List X) (b : Bool) → p x ≡ b → ((count p xs ≡ 0) ⊎ ((y : X) × (p y ≡ true)))
        → ((cond b 1 0 + count p xs ≡ 0) ⊎ ((y : X) × (p y ≡ true)))
    pick_one p x xs true e r = inr (x, e)
    pick_one p x xs false e r = ⊎_elim (λ z. inl (omega arith)) (λ w. inr w) r

    find : {X : Type 0} (p : X → Bool) (xs : List X) → ((count p xs ≡ 0) ⊎ ((y : X) × (p y ≡ true)))
    find p [] = inl refl
    find p (x ∷ xs) = pick_one p x xs (p x) refl (find p xs)

-- Keys compare as a total order does, and as the rows do that have them.
use Rattle.std.proofs.Common.{◌≡◌, ℕ, suc, ◌+◌, ◌<◌, ◌≤◌, Bool, true, false, ◌&&◌, List, [], ◌∷◌, length, drop, get_or, drop-cons, refl, sym, ap, arith, subst, ◌∙◌, is_le, is_eq, Ordering, Less, Equal, Greater}
use Rattle.std.specs.Ordering.{ordering_reverse, ordering_then, nat_cmp}
use Rattle.std.specs.Cmp.{IsTotalOrder, back_total, nat_cmp_is}
use Rattle.std.proofs.lemmas.List.{drop_all, length-map}
use Rattle.std.proofs.lemmas.Cmp.{upto, tied_itself, nat_cmp_total, on_total, then_total}
use Rattle.vx_rows_values.specs.declared.order.OrderEntry.{OrderEntry}
use Rattle.vx_rows_values.specs.Values.{Val, Row, val_cmp, row_cmp, row_eq, value_at}
use Rattle.vx_rows_values.specs.Order.{compare_values, compare_on}
use Rattle.vx_rows_values.proofs.Compare.{val_cmp_total, row_cmp_total, row_eq-same, not_gt-le, le-not_gt}
use Rattle.vx_match_merging.specs.Keys.{directions, key_of, key_cmp}

reverse_eq : (o : Ordering) → is_eq (ordering_reverse o) ≡ is_eq o
reverse_eq Less = refl
reverse_eq Equal = refl
reverse_eq Greater = refl

then_eq : (o p : Ordering) → is_eq (ordering_then o p) ≡ (is_eq o && is_eq p)
then_eq Less p = refl
then_eq Equal p = refl
then_eq Greater p = refl

values_eq : (falling : Bool) (x y : Val) → is_eq (compare_values falling x y) ≡ is_eq (val_cmp x y)
values_eq false x y = refl
values_eq true x y = ap is_eq (val_cmp_total.antisymm y x) ∙ reverse_eq (val_cmp x y)

values_total : (falling : Bool) → IsTotalOrder (compare_values falling)
values_total false = val_cmp_total
values_total true = back_total val_cmp_total

-- whether there is a value, then the first one, then the rest
abbrev some_values : Row → ℕ
some_values [] = 0
some_values (x ∷ row) = 1

abbrev stepwise : List Bool → Row → Row → Ordering
stepwise [] a b = row_cmp a b
stepwise (f ∷ falls) a b = ordering_then (nat_cmp (some_values a) (some_values b)) (ordering_then (compare_values f (value_at a 0) (value_at b 0)) (stepwise falls (drop 1 a) (drop 1 b)))

stepwise_total : (falls : List Bool) → IsTotalOrder (stepwise falls)
stepwise_total [] = row_cmp_total
stepwise_total (f ∷ falls) = then_total (on_total some_values nat_cmp_total) (then_total (on_total (λ row. value_at row 0) (values_total f)) (on_total (drop 1) (stepwise_total falls)))

stepwise-is : (falls : List Bool) (a b : Row) → stepwise falls a b ≡ key_cmp falls a b
stepwise-is [] a b = refl
stepwise-is (f ∷ falls) [] [] = tied_itself (stepwise_total (f ∷ falls)) []
stepwise-is (f ∷ falls) [] (y ∷ b) = refl
stepwise-is (f ∷ falls) (x ∷ a) [] = refl
stepwise-is (f ∷ falls) (x ∷ a) (y ∷ b) = ap (ordering_then (compare_values f x y)) (stepwise-is falls a b)

pub key_cmp_total : (falls : List Bool) → IsTotalOrder (key_cmp falls)
key_cmp_total falls = subst IsTotalOrder (λ i a b. stepwise-is falls a b i) (stepwise_total falls)

pub key_le-trans : (falls : List Bool) (a b c : Row) → is_le (key_cmp falls a b) ≡ true → is_le (key_cmp falls b c) ≡ true → is_le (key_cmp falls a c) ≡ true
key_le-trans falls a b c h k = le-not_gt _ (upto (key_cmp_total falls) a b c (not_gt-le _ h) (not_gt-le _ k))

-- keys that no direction tells apart are one
pub key_eq : (falls : List Bool) (a b : Row) → is_eq (key_cmp falls a b) ≡ row_eq a b
key_eq [] a b = refl
key_eq (f ∷ falls) [] [] = refl
key_eq (f ∷ falls) [] (y ∷ b) = refl
key_eq (f ∷ falls) (x ∷ a) [] = refl
key_eq (f ∷ falls) (x ∷ a) (y ∷ b) =
    then_eq _ _ ∙ (ap (λ c. c && is_eq (key_cmp falls a b)) (values_eq f x y) ∙ (ap (λ c. is_eq (val_cmp x y) && c) (key_eq falls a b) ∙ sym (then_eq _ _)))

pub key-same : (falls : List Bool) (a b : Row) → key_cmp falls a b ≡ Equal → a ≡ b
key-same falls a b e = row_eq-same a b (sym (key_eq falls a b) ∙ ap is_eq e)

-- the empty key is above no other
pub none-below : (falls : List Bool) (key : Row) → is_le (key_cmp falls [] key) ≡ true
none-below [] [] = refl
none-below [] (v ∷ key) = refl
none-below (f ∷ falls) [] = refl
none-below (f ∷ falls) (v ∷ key) = refl

-- rows compare as their keys
pub keyed : (order : List OrderEntry) (a b : Row) → compare_on order a b ≡ key_cmp (directions order) (key_of order a) (key_of order b)
keyed [] a b = refl
keyed (e ∷ order) a b = ap (ordering_then (compare_values e.falling (value_at a e.column) (value_at b e.column))) (keyed order a b)

pub rows-keys : (order : List OrderEntry) (a b : Row) → is_le (compare_on order a b) ≡ true → is_le (key_cmp (directions order) (key_of order a) (key_of order b)) ≡ true
rows-keys order a b h = ap is_le (sym (keyed order a b)) ∙ h

pub keys-rows : (order : List OrderEntry) (a b : Row) → is_le (key_cmp (directions order) (key_of order a) (key_of order b)) ≡ true → is_le (compare_on order a b) ≡ true
keys-rows order a b h = ap is_le (keyed order a b) ∙ h

-- orders with the same directions have as many columns
pub alike-long : (a b : List OrderEntry) → directions a ≡ directions b → length a ≡ length b
alike-long a b e = sym (length-map a (λ x. x.falling)) ∙ (ap length e ∙ length-map b (λ x. x.falling))

-- one column of each, where its values u and v compare as o
pub key-step : (a b : List OrderEntry) (x y : Row) (n : ℕ) (d f : OrderEntry) (o : Ordering) (u v : Val) → n < length a → n < length b
    → o ≡ compare_values (get_or a n d).falling u v → u ≡ value_at x (get_or a n d).column → v ≡ value_at y (get_or b n f).column
    → key_cmp (directions (drop n a)) (key_of (drop n a) x) (key_of (drop n b) y) ≡ ordering_then o (key_cmp (directions (drop (n + 1) a)) (key_of (drop (n + 1) a) x) (key_of (drop (n + 1) b) y))
key-step a b x y n d f o u v h k is left right =
    let next : suc n ≡ n + 1 = omega arith in
    let are : o ≡ compare_values (get_or a n d).falling (value_at x (get_or a n d).column) (value_at y (get_or b n f).column) =
    is ∙ (λ i. compare_values (get_or a n d).falling (left i) (right i)) in
    (λ i. key_cmp (directions (drop-cons a n d h i)) (key_of (drop-cons a n d h i) x) (key_of (drop-cons b n f k i) y))
    ∙ (λ i. ordering_then (sym are i) (key_cmp (directions (drop (next i) a)) (key_of (drop (next i) a) x) (key_of (drop (next i) b) y)))

pub first-decides : (o p : Ordering) → (o ≡ Equal → ⊥) → ordering_then o p ≡ o
first-decides Less p h = refl
first-decides Equal p h = absurd (h refl)
first-decides Greater p h = refl

-- and none at their end
pub key-end : (a b : List OrderEntry) (x y : Row) (n : ℕ) → length a ≤ n → length b ≤ n → key_cmp (directions (drop n a)) (key_of (drop n a) x) (key_of (drop n b) y) ≡ Equal
key-end a b x y n h k = λ i. key_cmp (directions (drop_all n a h i)) (key_of (drop_all n a h i) x) (key_of (drop_all n b k i) y)

-- the empty key compares with another as their lengths do
pub empty-compares : (order : List OrderEntry) (r : Row) (o : Ordering) → o ≡ nat_cmp 0 (length order) → o ≡ key_cmp (directions order) [] (key_of order r)
empty-compares [] r o e = e
empty-compares (x ∷ order) r o e = e ∙ sym (nat_cmp_is 0 (suc (length order)) Less (omega arith))

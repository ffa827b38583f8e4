-- The aggregates of rows when one more row comes at the end.
use Rattle.std.proofs.Common.{◌≡◌, ℕ, ◌+◌, ◌≤◌, pos, negsuc, ◌+ℤ◌, ◌-ℤ◌, Bool, true, false, cond, List, [], ◌∷◌, ◌++◌, length, refl, sym, ap, ◌∙◌, arith, true≢false, is_le, is_lt, is_gt, Ordering, Less, Equal, Greater}
use Rattle.std.proofs.lemmas.List.{length-append}
use Rattle.std.proofs.lemmas.Int.{ints}
use Rattle.vx_rows_values.specs.Values.{Val, num, text, Row, val_cmp, value_at}
use Rattle.vx_rows_values.specs.Bags.{total}
use Rattle.vx_plan_nodes.specs.Plan.{Aggregate, least, greatest, sum, count_rows}
use Rattle.vx_plan_nodes.specs.Serial.{smaller, larger, least_of, greatest_of, sum_of, count_of, above_zero, below_zero, aggregate_of}
use Rattle.std.proofs.lemmas.Cmp.{upto}
use Rattle.vx_rows_values.proofs.Compare.{val_cmp_total, val_cmp-same, not_gt-le, le-not_gt, le-reverse}
use Rattle.vx_match_grouping.specs.Groups.{number_of, next_value, advance, counted, held_of}

val-trans : (a b c : Val) → is_le (val_cmp a b) ≡ true → is_le (val_cmp b c) ≡ true → is_le (val_cmp a c) ≡ true
val-trans a b c h k = le-not_gt _ (upto val_cmp_total a b c (not_gt-le _ h) (not_gt-le _ k))

val-other : (a b : Val) → is_le (val_cmp a b) ≡ false → is_le (val_cmp b a) ≡ true
val-other a b h = le-reverse (val_cmp a b) (val_cmp b a) (val_cmp_total.antisymm a b) h

-- above a value that is above one that it is not above
val-far : (x y z : Val) → is_le (val_cmp x y) ≡ false → is_le (val_cmp y z) ≡ false → is_le (val_cmp x z) ≡ false
val-far x y z h k = by (is_le (val_cmp x z)) refl
  where
    by : (b : Bool) → is_le (val_cmp x z) ≡ b → is_le (val_cmp x z) ≡ false
    by true e = absurd (true≢false (sym (val-trans x z y e (val-other y z k)) ∙ h))
    by false e = e

abbrev if_le : Val → Val → Val → Val → Val
if_le x y a b = cond (is_le (val_cmp x y)) a b

if_le-yes : (x y a b : Val) → is_le (val_cmp x y) ≡ true → if_le x y a b ≡ a
if_le-yes x y a b h = ap (λ c. cond c a b) h

if_le-no : (x y a b : Val) → is_le (val_cmp x y) ≡ false → if_le x y a b ≡ b
if_le-no x y a b h = ap (λ c. cond c a b) h

pub smaller-assoc : (x y z : Val) → smaller x (smaller y z) ≡ smaller (smaller x y) z
smaller-assoc x y z = by (is_le (val_cmp x y)) (is_le (val_cmp y z)) refl refl
  where
    by : (b c : Bool) → is_le (val_cmp x y) ≡ b → is_le (val_cmp y z) ≡ c → smaller x (smaller y z) ≡ smaller (smaller x y) z
    by true true h k = ap (smaller x) (if_le-yes y z y z k) ∙ (if_le-yes x y x y h ∙ sym (ap (λ v. smaller v z) (if_le-yes x y x y h) ∙ if_le-yes x z x z (val-trans x y z h k)))
    by true false h k = ap (smaller x) (if_le-no y z y z k) ∙ sym (ap (λ v. smaller v z) (if_le-yes x y x y h))
    by false true h k = ap (smaller x) (if_le-yes y z y z k) ∙ (if_le-no x y x y h ∙ sym (ap (λ v. smaller v z) (if_le-no x y x y h) ∙ if_le-yes y z y z k))
    by false false h k = ap (smaller x) (if_le-no y z y z k) ∙ (if_le-no x z x z (val-far x y z h k) ∙ sym (ap (λ v. smaller v z) (if_le-no x y x y h) ∙ if_le-no y z y z k))

pub larger-assoc : (x y z : Val) → larger x (larger y z) ≡ larger (larger x y) z
larger-assoc x y z = by (is_le (val_cmp x y)) (is_le (val_cmp y z)) refl refl
  where
    by : (b c : Bool) → is_le (val_cmp x y) ≡ b → is_le (val_cmp y z) ≡ c → larger x (larger y z) ≡ larger (larger x y) z
    by true true h k = ap (larger x) (if_le-yes y z z y k) ∙ (if_le-yes x z z x (val-trans x y z h k) ∙ sym (ap (λ v. larger v z) (if_le-yes x y y x h) ∙ if_le-yes y z z y k))
    by true false h k = ap (larger x) (if_le-no y z z y k) ∙ (if_le-yes x y y x h ∙ sym (ap (λ v. larger v z) (if_le-yes x y y x h) ∙ if_le-no y z z y k))
    by false true h k = ap (larger x) (if_le-yes y z z y k) ∙ sym (ap (λ v. larger v z) (if_le-no x y y x h))
    by false false h k = ap (larger x) (if_le-no y z z y k) ∙ (if_le-no x y y x h ∙ sym (ap (λ v. larger v z) (if_le-no x y y x h) ∙ if_le-no x z z x (val-far x y z h k)))

least-push : (c : ℕ) (x : Row) (xs : List Row) (y : Row) → least_of c x (xs ++ y ∷ []) ≡ smaller (least_of c x xs) (value_at y c)
least-push c x [] y = refl
least-push c x (z ∷ xs) y = ap (smaller (value_at x c)) (least-push c z xs y) ∙ smaller-assoc (value_at x c) (least_of c z xs) (value_at y c)

greatest-push : (c : ℕ) (x : Row) (xs : List Row) (y : Row) → greatest_of c x (xs ++ y ∷ []) ≡ larger (greatest_of c x xs) (value_at y c)
greatest-push c x [] y = refl
greatest-push c x (z ∷ xs) y = ap (larger (value_at x c)) (greatest-push c z xs y) ∙ larger-assoc (value_at x c) (greatest_of c z xs) (value_at y c)

total-push : {X : Type 0} (f : X → ℕ) (xs : List X) (y : X) → total f (xs ++ y ∷ []) ≡ total f xs + f y
total-push f [] y = omega arith
total-push f (x ∷ xs) y = let r : total f (xs ++ y ∷ []) ≡ total f xs + f y = total-push f xs y in omega (arith, r)

parts-add : (a b : ℕ) (v : Val) → pos (a + above_zero v) -ℤ pos (b + below_zero v) ≡ (pos a -ℤ pos b) +ℤ number_of v
parts-add a b (num (pos n)) = omega (arith, ints)
parts-add a b (num (negsuc n)) = omega (arith, ints)
parts-add a b (text t) = omega (arith, ints)

sum-push : (c : ℕ) (xs : List Row) (y : Row) → sum_of c (xs ++ y ∷ []) ≡ sum_of c xs +ℤ number_of (value_at y c)
sum-push c xs y =
    (λ i. pos (total-push (λ r. above_zero (value_at r c)) xs y i) -ℤ pos (total-push (λ r. below_zero (value_at r c)) xs y i))
    ∙ parts-add (total (λ r. above_zero (value_at r c)) xs) (total (λ r. below_zero (value_at r c)) xs) (value_at y c)

count-push : (xs : List Row) (y : Row) → count_of (xs ++ y ∷ []) ≡ count_of xs +ℤ pos 1
count-push xs y = ap (λ n. pos n) (total-push (λ (r : Row). 1) xs y) ∙ omega (arith, ints)

aggregate-push : (a : Aggregate) (x : Row) (xs : List Row) (y : Row) → aggregate_of a ((x ∷ xs) ++ y ∷ []) ≡ next_value a (aggregate_of a (x ∷ xs)) y
aggregate-push (least c) x xs y = least-push c x xs y
aggregate-push (greatest c) x xs y = greatest-push c x xs y
aggregate-push (sum c) x xs y = ap num (sum-push c (x ∷ xs) y)
aggregate-push count_rows x xs y = ap num (count-push (x ∷ xs) y)

counted-more : (a : Aggregate) (n : ℕ) → counted a (n + 1) ≡ counted a n + counted a 1
counted-more (least c) n = refl
counted-more (greatest c) n = refl
counted-more (sum c) n = refl
counted-more count_rows n = refl

counted-push : (a : Aggregate) (xs : List Row) (y : Row) → counted a (length (xs ++ y ∷ [])) ≡ counted a (length xs) + counted a 1
counted-push a xs y = ap (counted a) (length-append xs (y ∷ [])) ∙ counted-more a (length xs)

pub counted-most : (a : Aggregate) (n : ℕ) → counted a n ≤ n
counted-most (least c) n = omega arith
counted-most (greatest c) n = omega arith
counted-most (sum c) n = omega arith
counted-most count_rows n = omega arith

pub held-push : (a : Aggregate) (x : Row) (xs : List Row) (y : Row) → held_of a ((x ∷ xs) ++ y ∷ []) ≡ advance y (held_of a (x ∷ xs))
held-push a x xs y = λ i. record { aggregate = a; value = aggregate-push a x xs y i; taken = counted-push a (x ∷ xs) y i }

-- the smaller of two values is the first where that is not above the second
pub smaller_first : (v w : Val) → is_gt (val_cmp v w) ≡ false → smaller v w ≡ v
smaller_first v w h = by (val_cmp v w) h
  where
    by : (o : Ordering) → is_gt o ≡ false → cond (is_le o) v w ≡ v
    by Less h = refl
    by Equal h = refl
    by Greater h = absurd (true≢false h)

-- the larger of two values is the first where that is not below the second
pub larger_first : (v w : Val) → is_lt (val_cmp v w) ≡ false → larger v w ≡ v
larger_first v w h = by (val_cmp v w) refl h
  where
    by : (o : Ordering) → val_cmp v w ≡ o → is_lt o ≡ false → cond (is_le o) w v ≡ v
    by Less e h = absurd (true≢false h)
    by Equal e h = sym (val_cmp-same v w e)
    by Greater e h = refl

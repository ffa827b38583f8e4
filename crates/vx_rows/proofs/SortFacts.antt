-- A sorted list in which equal elements keep their order is the stable sort.
use Rattle.std.proofs.Common.{◌≡◌, suc, ◌+◌, Bool, true, false, cond, not, ◌&&◌, List, [], ◌∷◌, filter, get_or, map, refl, sym, ap, ◌∙◌, arith, true≢false, is_le, is_lt, is_eq, Ordering, Less, Equal, Greater}
use Rattle.std.specs.Ordering.{ordering_reverse}
use Rattle.std.specs.List.{list_all, AllByRecursion}
use Rattle.std.specs.Cmp.{IsTotalOrder, IsStrictWeakOrder}
use Rattle.std.proofs.lemmas.Cmp.{upto, eq_by_cmp_equiv}
use Rattle.std.proofs.lemmas.List.Sorted.{ranks_by}
use Rattle.std.specs.List.Sorted.{IsSortedBy, IsStableBy, ties}
use Rattle.vx_rows_values.specs.declared.order.OrderEntry.{OrderEntry}
use Rattle.vx_rows_values.specs.Values.{Row}
use Rattle.vx_rows_values.specs.Order.{compare_on, insert_sorted, sort_on}
use Rattle.vx_rows.specs.Sorting.{insert_by, sort_by}
use Rattle.vx_rows_values.proofs.Compare.{not_gt-le, le-not_gt, le-reverse}
use Rattle.vx_rows_values.proofs.Booleans.{and-left, and-right, and-both}

-- elements that tie are those that are equal
tie-is : (o p : Ordering) → o ≡ ordering_reverse p → (not (is_lt o) && not (is_lt p)) ≡ is_eq o
tie-is o Less e = let b : not (is_lt Less) ≡ false = refl in ap (λ x. not (is_lt x) && false) e ∙ ap is_eq (sym e)
tie-is o Equal e = ap (λ x. not (is_lt x) && true) e ∙ ap is_eq (sym e)
tie-is o Greater e = ap (λ x. not (is_lt x) && true) e ∙ ap is_eq (sym e)

-- no element falls against the one before it, so none against any earlier one
not_lt-le : (o p : Ordering) → o ≡ ordering_reverse p → is_lt p ≡ false → is_le o ≡ true
not_lt-le o Less e h = absurd (true≢false h)
not_lt-le o Equal e h = ap is_le e
not_lt-le o Greater e h = ap is_le e

pub eq-le : (o : Ordering) → is_eq o ≡ true → is_le o ≡ true
eq-le Less k = absurd (true≢false (sym k))
eq-le Equal k = refl
eq-le Greater k = absurd (true≢false (sym k))

pub both-le : (o p : Ordering) → o ≡ ordering_reverse p → is_le o ≡ true → is_le p ≡ true → is_eq o ≡ true
both-le o Less e h k = let b : is_le o ≡ false = ap is_le e in absurd (true≢false (sym h ∙ b))
both-le o Equal e h k = ap is_eq e
both-le o Greater e h k = absurd (true≢false (sym k))

-- no element is above a later one
abbrev pub ordered : {X : Type 0} → (X → X → Ordering) → List X → Bool
ordered cmp [] = true
ordered cmp (x ∷ xs) = list_all (λ y. is_le (cmp x y)) xs && ordered cmp xs

-- the first is smaller
abbrev pub falls : {X : Type 0} → (X → X → Ordering) → X → X → Bool
falls cmp x y = is_lt (cmp x y)

-- the elements that are equal to this one
abbrev pub alike : {X : Type 0} → (X → X → Ordering) → X → List X → List X
alike cmp z xs = filter (λ x. is_eq (cmp z x)) xs

module _ {X : Type 0} (cmp : X → X → Ordering) (total : IsTotalOrder cmp) where
  abbrev equals : X → X → Bool
  equals x y = is_eq (cmp x y)

  pub cmp-trans : (x y z : X) → is_le (cmp x y) ≡ true → is_le (cmp y z) ≡ true → is_le (cmp x z) ≡ true
  cmp-trans x y z h k = le-not_gt _ (upto total x y z (not_gt-le _ h) (not_gt-le _ k))

  cmp-other : (x y : X) → is_le (cmp x y) ≡ false → is_le (cmp y x) ≡ true
  cmp-other x y h = le-reverse (cmp x y) (cmp y x) (total.antisymm x y) h

  pub ties-same : (a b : X) → ties (falls cmp) a b ≡ equals a b
  ties-same a b = tie-is (cmp a b) (cmp b a) (total.antisymm a b)

  filter-ext : (p q : X → Bool) → ((r : X) → p r ≡ q r) → (xs : List X) → filter p xs ≡ filter q xs
  filter-ext p q h [] = refl
  filter-ext p q h (x ∷ xs) = λ i. cond (h x i) (x ∷ filter-ext p q h xs i) (filter-ext p q h xs i)

  pub alike-from : (xs ys : List X) → IsStableBy (falls cmp) xs ys → (z : X) → alike cmp z ys ≡ alike cmp z xs
  alike-from xs ys h z = filter-ext (equals z) (ties (falls cmp) z) (λ r. sym (ties-same z r)) ys ∙ (h z ∙ filter-ext (ties (falls cmp) z) (equals z) (λ r. ties-same z r) xs)

  all-above : (y z : X) (zs : List X) → is_le (cmp y z) ≡ true → list_all (λ w. is_le (cmp z w)) zs ≡ true → list_all (λ w. is_le (cmp y w)) zs ≡ true
  all-above y z [] h k = refl
  all-above y z (w ∷ zs) h k =
      and-both (is_le (cmp y w)) (list_all (λ v. is_le (cmp y v)) zs) (cmp-trans y z w h (and-left (is_le (cmp z w)) (list_all (λ v. is_le (cmp z v)) zs) k))
      (all-above y z zs h (and-right (is_le (cmp z w)) (list_all (λ v. is_le (cmp z v)) zs) k))

  pub sorted-from : (ys : List X) → IsSortedBy (falls cmp) ys → ordered cmp ys ≡ true
  sorted-from [] h = refl
  sorted-from (y ∷ []) h = refl
  sorted-from (y ∷ z ∷ zs) h =
      let rest : ordered cmp (z ∷ zs) ≡ true = sorted-from (z ∷ zs) (λ k d low high. let up : suc (k + 1) ≡ suc k + 1 = omega arith in ap (λ n. falls cmp (get_or (y ∷ z ∷ zs) n d) (get_or (z ∷ zs) k d)) up ∙ h (suc k) d (omega arith) (omega (arith, high))) in
      let near : is_le (cmp y z) ≡ true = not_lt-le (cmp y z) (cmp z y) (total.antisymm y z) (h 0 y (omega arith) (omega arith)) in
      and-both (list_all (λ w. is_le (cmp y w)) (z ∷ zs)) (ordered cmp (z ∷ zs))
      (and-both (is_le (cmp y z)) (list_all (λ w. is_le (cmp y w)) zs) near (all-above y z zs near (and-left (list_all (λ w. is_le (cmp z w)) zs) (ordered cmp zs) rest))) rest

  -- the sort is sorted
  insert-above : (y x : X) (xs : List X) → is_le (cmp y x) ≡ true → list_all (λ w. is_le (cmp y w)) xs ≡ true
      → list_all (λ w. is_le (cmp y w)) (insert_by cmp x xs) ≡ true
  insert-above y x [] h k = and-both (is_le (cmp y x)) true h refl
  insert-above y x (z ∷ zs) h k = step (is_le (cmp x z)) (insert-above y x zs h (and-right (is_le (cmp y z)) (list_all (λ w. is_le (cmp y w)) zs) k))
    where
      step : (b : Bool) → list_all (λ w. is_le (cmp y w)) (insert_by cmp x zs) ≡ true
          → list_all (λ w. is_le (cmp y w)) (cond b (x ∷ z ∷ zs) (z ∷ insert_by cmp x zs)) ≡ true
      step true r = and-both (is_le (cmp y x)) (list_all (λ w. is_le (cmp y w)) (z ∷ zs)) h k
      step false r = and-both (is_le (cmp y z)) (list_all (λ w. is_le (cmp y w)) (insert_by cmp x zs)) (and-left (is_le (cmp y z)) (list_all (λ w. is_le (cmp y w)) zs) k) r

  insert-is-sorted : (x : X) (xs : List X) → ordered cmp xs ≡ true → ordered cmp (insert_by cmp x xs) ≡ true
  insert-is-sorted x [] h = refl
  insert-is-sorted x (y ∷ ys) h = step (is_le (cmp x y)) refl (insert-is-sorted x ys (and-right (list_all (λ w. is_le (cmp y w)) ys) (ordered cmp ys) h))
    where
      step : (b : Bool) → is_le (cmp x y) ≡ b → ordered cmp (insert_by cmp x ys) ≡ true → ordered cmp (cond b (x ∷ y ∷ ys) (y ∷ insert_by cmp x ys)) ≡ true
      step true e r = and-both (list_all (λ w. is_le (cmp x w)) (y ∷ ys)) (ordered cmp (y ∷ ys))
          (and-both (is_le (cmp x y)) (list_all (λ w. is_le (cmp x w)) ys) e (all-above x y ys e (and-left (list_all (λ w. is_le (cmp y w)) ys) (ordered cmp ys) h))) h
      step false e r = and-both (list_all (λ w. is_le (cmp y w)) (insert_by cmp x ys)) (ordered cmp (insert_by cmp x ys))
          (insert-above y x ys (cmp-other x y e) (and-left (list_all (λ w. is_le (cmp y w)) ys) (ordered cmp ys) h)) r

  pub sort-is-sorted : (xs : List X) → ordered cmp (sort_by cmp xs) ≡ true
  sort-is-sorted [] = refl
  sort-is-sorted (x ∷ xs) = insert-is-sorted x (sort_by cmp xs) (sort-is-sorted xs)

  -- and keeps the order of equal elements
  not-alike : (z x y : X) → is_le (cmp x y) ≡ false → equals z x ≡ true → equals z y ≡ false
  not-alike z x y h a = by (equals z y) refl
    where
      by : (b : Bool) → equals z y ≡ b → equals z y ≡ false
      by true e = absurd (true≢false (sym (eq-le (cmp x y) (sym ((eq_by_cmp_equiv total).congr z x y a) ∙ e)) ∙ h))
      by false e = e

  insert-alike : (z x : X) (ys : List X) → alike cmp z (insert_by cmp x ys) ≡ alike cmp z (x ∷ ys)
  insert-alike z x [] = refl
  insert-alike z x (y ∷ ys) = step (is_le (cmp x y)) refl (insert-alike z x ys)
    where
      swap : (a b : Bool) → equals z x ≡ a → (a ≡ true → b ≡ false)
          → cond b (y ∷ cond a (x ∷ alike cmp z ys) (alike cmp z ys)) (cond a (x ∷ alike cmp z ys) (alike cmp z ys)) ≡ cond a (x ∷ cond b (y ∷ alike cmp z ys) (alike cmp z ys)) (cond b (y ∷ alike cmp z ys) (alike cmp z ys))
      swap false b p h = refl
      swap true true p h = absurd (true≢false (h refl))
      swap true false p h = refl

      step : (b : Bool) → is_le (cmp x y) ≡ b → alike cmp z (insert_by cmp x ys) ≡ alike cmp z (x ∷ ys)
          → alike cmp z (cond b (x ∷ y ∷ ys) (y ∷ insert_by cmp x ys)) ≡ alike cmp z (x ∷ y ∷ ys)
      step true e r = refl
      step false e r = ap (λ l. cond (equals z y) (y ∷ l) l) r ∙ swap (equals z x) (equals z y) refl (λ a. not-alike z x y e a)

  pub sort-alike : (z : X) (xs : List X) → alike cmp z (sort_by cmp xs) ≡ alike cmp z xs
  sort-alike z [] = refl
  sort-alike z (x ∷ xs) = insert-alike z x (sort_by cmp xs) ∙ ap (λ l. cond (equals z x) (x ∷ l) l) (sort-alike z xs)

  -- two sorted lists whose equal elements stand in the same order are one
  abbrev head-or : X → List X → X
  head-or d [] = d
  head-or d (x ∷ xs) = x

  abbrev tail-of : List X → List X
  tail-of [] = []
  tail-of (x ∷ xs) = xs

  pub same-self : (z : X) → equals z z ≡ true
  same-self z = (eq_by_cmp_equiv total).refl z

  -- an element below all of a list is below one that is equal to one of them
  pub low : (z w : X) (zs : List X) → list_all (λ v. is_le (cmp z v)) zs ≡ true → (v : X) (rest : List X) → alike cmp w zs ≡ v ∷ rest → is_le (cmp z w) ≡ true
  low z w [] h v rest e = absurd (cc e)
  low z w (y ∷ ys) h v rest e =
      step (equals w y) refl e (low z w ys (and-right (is_le (cmp z y)) (list_all (λ u. is_le (cmp z u)) ys) h) v rest)
    where
      step : (b : Bool) → equals w y ≡ b → cond b (y ∷ alike cmp w ys) (alike cmp w ys) ≡ v ∷ rest → (alike cmp w ys ≡ v ∷ rest → is_le (cmp z w) ≡ true) → is_le (cmp z w) ≡ true
      step true a e r = cmp-trans z y w (and-left (is_le (cmp z y)) (list_all (λ u. is_le (cmp z u)) ys) h)
          (eq-le (cmp y w) ((eq_by_cmp_equiv total).symm y w ∙ a))
      step false a e r = r e

  sorted-low : (z : X) (zs : List X) → ordered cmp (z ∷ zs) ≡ true → list_all (λ v. is_le (cmp z v)) (z ∷ zs) ≡ true
  sorted-low z zs h = and-both (is_le (cmp z z)) (list_all (λ v. is_le (cmp z v)) zs) (eq-le (cmp z z) (same-self z)) (and-left (list_all (λ v. is_le (cmp z v)) zs) (ordered cmp zs) h)

  alike-front : (w z : X) (zs : List X) → equals w z ≡ true → alike cmp w (z ∷ zs) ≡ z ∷ alike cmp w zs
  alike-front w z zs h = ap (λ b. cond b (z ∷ alike cmp w zs) (alike cmp w zs)) h

  pub same-list : (ys zs : List X) → ordered cmp ys ≡ true → ordered cmp zs ≡ true → ((w : X) → alike cmp w ys ≡ alike cmp w zs) → ys ≡ zs
  same-list [] [] g h same = refl
  same-list [] (z ∷ zs) g h same = let e : [] ≡ z ∷ alike cmp z zs = same z ∙ alike-front z z zs (same-self z) in absurd (cc e)
  same-list (y ∷ ys) [] g h same = let e : [] ≡ y ∷ alike cmp y ys = sym (same y) ∙ alike-front y y ys (same-self y) in absurd (cc e)
  same-list (y ∷ ys) (z ∷ zs) g h same = finish (same-list ys zs (and-right (list_all (λ v. is_le (cmp y v)) ys) (ordered cmp ys) g) (and-right (list_all (λ v. is_le (cmp z v)) zs) (ordered cmp zs) h))
    where
      z-low : is_le (cmp z y) ≡ true
      z-low = low z y (z ∷ zs) (sorted-low z zs h) y (alike cmp y ys) (sym (same y) ∙ alike-front y y ys (same-self y))

      y-low : is_le (cmp y z) ≡ true
      y-low = low y z (y ∷ ys) (sorted-low y ys g) z (alike cmp z zs) (same z ∙ alike-front z z zs (same-self z))

      meet : equals y z ≡ true
      meet = both-le (cmp y z) (cmp z y) (total.antisymm y z) y-low z-low

      heads : y ≡ z
      heads = ap (head-or y) (sym (alike-front y y ys (same-self y)) ∙ (same y ∙ alike-front y z zs meet))

      finish : (((w : X) → alike cmp w ys ≡ alike cmp w zs) → ys ≡ zs) → y ∷ ys ≡ z ∷ zs
      finish rest = λ i. heads i ∷ rest (λ w. strip (equals w z) (alike cmp w ys) (alike cmp w zs) (ap (λ r. cond (equals w r) (r ∷ alike cmp w ys) (alike cmp w ys)) (sym heads) ∙ same w)) i
        where
          strip : (b : Bool) (as' bs : List X) → cond b (z ∷ as') as' ≡ cond b (z ∷ bs) bs → as' ≡ bs
          strip true as' bs e = ap tail-of e
          strip false as' bs e = e

  -- what a stable sort gives
  pub sort-is : (xs ys : List X) → IsSortedBy (falls cmp) ys → IsStableBy (falls cmp) xs ys → ys ≡ sort_by cmp xs
  sort-is xs ys up stable = same-list ys (sort_by cmp xs) (sorted-from ys up) (sort-is-sorted xs) (λ w. alike-from xs ys stable w ∙ sym (sort-alike w xs))

  pub falls-order : IsStrictWeakOrder (falls cmp)
  falls-order = ranks_by total (λ x. x)

-- what all elements of a list have, those of the sorted list have
pub insert_by-all : {X : Type 0} (cmp : X → X → Ordering) (P : X → Type 0) (x : X) (xs : List X) → P x → AllByRecursion P xs → AllByRecursion P (insert_by cmp x xs)
insert_by-all cmp P x [] p h = (p, tt)
insert_by-all cmp P x (y ∷ ys) p h = step (is_le (cmp x y)) (insert_by-all cmp P x ys p h.1)
  where
    step : (b : Bool) → AllByRecursion P (insert_by cmp x ys) → AllByRecursion P (cond b (x ∷ y ∷ ys) (y ∷ insert_by cmp x ys))
    step true r = (p, h)
    step false r = (h.0, r)

pub sort_by-all : {X : Type 0} (cmp : X → X → Ordering) (P : X → Type 0) (xs : List X) → AllByRecursion P xs → AllByRecursion P (sort_by cmp xs)
sort_by-all cmp P [] h = tt
sort_by-all cmp P (x ∷ xs) h = insert_by-all cmp P x (sort_by cmp xs) h.0 (sort_by-all cmp P xs h.1)

-- a map that keeps comparisons takes the sorted list to the sorted list
module _ {X Y : Type 0} (f : X → Y) (cmp : X → X → Ordering) (after : Y → Y → Ordering) (P : X → Type 0) (keeps : (x y : X) → P x → P y → cmp x y ≡ after (f x) (f y)) where
  insert_by-map : (x : X) (xs : List X) → P x → AllByRecursion P xs → map f (insert_by cmp x xs) ≡ insert_by after (f x) (map f xs)
  insert_by-map x [] p h = refl
  insert_by-map x (y ∷ ys) p h = step (is_le (cmp x y)) (insert_by-map x ys p h.1) ∙ ap (λ o. cond (is_le o) (f x ∷ f y ∷ map f ys) (f y ∷ insert_by after (f x) (map f ys))) (keeps x y p h.0)
    where
      step : (b : Bool) → map f (insert_by cmp x ys) ≡ insert_by after (f x) (map f ys) → map f (cond b (x ∷ y ∷ ys) (y ∷ insert_by cmp x ys)) ≡ cond b (f x ∷ f y ∷ map f ys) (f y ∷ insert_by after (f x) (map f ys))
      step true r = refl
      step false r = ap (λ l. f y ∷ l) r

  pub sort_by-map : (xs : List X) → AllByRecursion P xs → map f (sort_by cmp xs) ≡ sort_by after (map f xs)
  sort_by-map [] h = refl
  sort_by-map (x ∷ xs) h = insert_by-map x (sort_by cmp xs) h.0 (sort_by-all cmp P xs h.1) ∙ ap (insert_by after (f x)) (sort_by-map xs h.1)

-- rows by an order
insert_by-is : (order : List OrderEntry) (x : Row) (xs : List Row) → insert_by (compare_on order) x xs ≡ insert_sorted order x xs
insert_by-is order x [] = refl
insert_by-is order x (y ∷ ys) = ap (λ l. cond (is_le (compare_on order x y)) (x ∷ y ∷ ys) (y ∷ l)) (insert_by-is order x ys)

pub sort_by-is : (order : List OrderEntry) (xs : List Row) → sort_by (compare_on order) xs ≡ sort_on order xs
sort_by-is order [] = refl
sort_by-is order (x ∷ xs) = insert_by-is order x (sort_by (compare_on order) xs) ∙ ap (insert_sorted order x) (sort_by-is order xs)

-- Sorted lists: a front of the order, a part of the list, and what copies columns.
use Rattle.std.proofs.Common.{◌≡◌, ℕ, zero, suc, ◌<◌, ◌==◌, nat_lt, Bool, true, false, cond, List, [], ◌∷◌, map, filter, take, refl, sym, ap, ◌∙◌, subst, arith, true≢false, eq-eqb, ltb-true, is_le, Ordering, Less, Equal, Greater}
use Rattle.std.specs.List.{list_all}
use Rattle.std.specs.Ordering.{ordering_then}
use Rattle.vx_rows_values.specs.declared.order.OrderEntry.{OrderEntry}
use Rattle.vx_rows_values.specs.Values.{Row, value_at}
use Rattle.vx_rows_values.specs.Order.{entry_eq, compare_values, compare_on, sorted}
use Rattle.vx_plan_nodes.specs.Streams.{Streams, bearing, Dealt}
use Rattle.vx_check_rules.specs.Rules.{is_front}
use Rattle.vx_exec_laws.proofs.Bags.{and-left, and-right, and-both}
use Rattle.vx_exec_laws.proofs.Parts.{list_all-weaken}
use Rattle.vx_exec_laws.proofs.OrderFacts.{entry-same}

pub le-front : (order ds : List OrderEntry) (a b : Row) → is_front order ds ≡ true → is_le (compare_on ds a b) ≡ true → is_le (compare_on order a b) ≡ true
le-front [] ds a b f h = refl
le-front (c ∷ order) [] a b f h = absurd (true≢false (sym f))
le-front (c ∷ order) (d ∷ ds) a b f h =
    let same : c ≡ d = entry-same c d (and-left (entry_eq c d) (is_front order ds) f) in
    let P : OrderEntry → Type 0 = λ x. is_le (compare_on (x ∷ order) a b) ≡ true in
    subst P (sym same) (step (compare_values d.falling (value_at a d.column) (value_at b d.column)) _ _ (le-front order ds a b (and-right (entry_eq c d) (is_front order ds) f)) h)
  where
    step : (o p q : Ordering) → (is_le p ≡ true → is_le q ≡ true) → is_le (ordering_then o p) ≡ true → is_le (ordering_then o q) ≡ true
    step Less p q f h = refl
    step Equal p q f h = f h
    step Greater p q f h = h

pub sorted-front : (order ds : List OrderEntry) → is_front order ds ≡ true → (xs : List Row) → sorted ds xs ≡ true → sorted order xs ≡ true
sorted-front order ds f [] h = refl
sorted-front order ds f (x ∷ xs) h = and-both _ _
    (list_all-weaken (λ y. is_le (compare_on ds x y)) (λ y. is_le (compare_on order x y)) (λ y. le-front order ds x y f) xs (and-left _ _ h))
    (sorted-front order ds f xs (and-right _ _ h))

pub list_all-cond : {X : Type 0} (q : X → Bool) (b : Bool) (x : X) (xs : List X) → q x ≡ true → list_all q xs ≡ true → list_all q (cond b (x ∷ xs) xs) ≡ true
list_all-cond q true x xs h k = and-both _ _ h k
list_all-cond q false x xs h k = k

pub list_all-filter : {X : Type 0} (q p : X → Bool) (xs : List X) → list_all q xs ≡ true → list_all q (filter p xs) ≡ true
list_all-filter q p [] h = refl
list_all-filter q p (x ∷ xs) h = list_all-cond q (p x) x _ (and-left _ _ h) (list_all-filter q p xs (and-right _ _ h))

pub sorted-cond : (order : List OrderEntry) (b : Bool) (x : Row) (xs : List Row) → list_all (λ y. is_le (compare_on order x y)) xs ≡ true → sorted order xs ≡ true → sorted order (cond b (x ∷ xs) xs) ≡ true
sorted-cond order true x xs h k = and-both _ _ h k
sorted-cond order false x xs h k = k

pub sorted-filter : (order : List OrderEntry) (p : Row → Bool) (xs : List Row) → sorted order xs ≡ true → sorted order (filter p xs) ≡ true
sorted-filter order p [] h = refl
sorted-filter order p (x ∷ xs) h =
    sorted-cond order (p x) x (filter p xs) (list_all-filter _ p xs (and-left _ _ h)) (sorted-filter order p xs (and-right _ _ h))

pub list_all-take : {X : Type 0} (q : X → Bool) (n : ℕ) (xs : List X) → list_all q xs ≡ true → list_all q (take n xs) ≡ true
list_all-take q zero xs h = refl
list_all-take q (suc n) [] h = refl
list_all-take q (suc n) (x ∷ xs) h =
    and-both (q x) (list_all q (take n xs)) (and-left (q x) (list_all q xs) h) (list_all-take q n xs (and-right (q x) (list_all q xs) h))

pub sorted-take : (order : List OrderEntry) (n : ℕ) (xs : List Row) → sorted order xs ≡ true → sorted order (take n xs) ≡ true
sorted-take order zero xs h = refl
sorted-take order (suc n) [] h = refl
sorted-take order (suc n) (x ∷ xs) h =
    let le : Row → Bool = λ y. is_le (compare_on order x y) in
    and-both (list_all le (take n xs)) (sorted order (take n xs))
    (list_all-take le n xs (and-left (list_all le xs) (sorted order xs) h)) (sorted-take order n xs (and-right (list_all le xs) (sorted order xs) h))

abbrev pub rows_of : List (ℕ × Row) → List Row
rows_of ts = map (λ t. t.1) ts

pub list_all-bearing : (q : Row → Bool) (i : ℕ) (ts : List (ℕ × Row)) → list_all q (rows_of ts) ≡ true → list_all q (bearing i ts) ≡ true
list_all-bearing q i [] h = refl
list_all-bearing q i (t ∷ ts) h = list_all-cond q (t.0 == i) t.1 _ (and-left _ _ h) (list_all-bearing q i ts (and-right _ _ h))

pub sorted-bearing : (order : List OrderEntry) (i : ℕ) (ts : List (ℕ × Row)) → sorted order (rows_of ts) ≡ true → sorted order (bearing i ts) ≡ true
sorted-bearing order i [] h = refl
sorted-bearing order i (t ∷ ts) h =
    sorted-cond order (t.0 == i) t.1 (bearing i ts) (list_all-bearing _ i ts (and-left _ _ h)) (sorted-bearing order i ts (and-right _ _ h))

-- each list that a sorted list is dealt out to is sorted
pub Dealt-sorted : {n : ℕ} {xs : List Row} {ls : Streams} → Dealt n xs ls → (order : List OrderEntry) → sorted order xs ≡ true → (i : ℕ) → i < n → sorted order (ls i) ≡ true
Dealt-sorted {n} {xs} {ls} d order h i l =
    let P : List Row → Type 0 = λ x. sorted order x ≡ true in
    subst P (d.lists_are i l) (sorted-bearing order i d.numbered (subst P (sym d.whole) h))

-- a shuffle of one list is that list
pub bearing-zero : (ts : List (ℕ × Row)) → list_all (λ t. nat_lt t.0 1) ts ≡ true → bearing 0 ts ≡ rows_of ts
bearing-zero [] h = refl
bearing-zero (t ∷ ts) h =
    let b : t.0 < 1 = ltb-true t.0 1 (and-left _ _ h) in
    let e : (t.0 == 0) ≡ true = eq-eqb t.0 0 (omega arith) in
    let r : bearing 0 ts ≡ rows_of ts = bearing-zero ts (and-right _ _ h) in
    ap (λ v. cond v (t.1 ∷ bearing 0 ts) (bearing 0 ts)) e ∙ ap (λ v. t.1 ∷ v) r

pub Dealt-one : {xs : List Row} {ls : Streams} → Dealt 1 xs ls → xs ≡ ls 0
Dealt-one d = sym d.whole ∙ (sym (bearing-zero d.numbered d.in_range) ∙ d.lists_are 0 (omega arith))

pub sorted-none : (xs : List Row) → sorted [] xs ≡ true
sorted-none [] = refl
sorted-none (x ∷ xs) = and-both _ _ (always xs) (sorted-none xs)
  where
    always : (ys : List Row) → list_all (λ y. is_le (compare_on [] x y)) ys ≡ true
    always [] = refl
    always (y ∷ ys) = always ys

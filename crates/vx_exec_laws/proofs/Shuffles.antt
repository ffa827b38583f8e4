-- Sorted lists have a sorted shuffle.
use Rattle.std.proofs.Common.{◌≡◌, ℕ, zero, suc, ◌<◌, ◌≤◌, ◌==◌, nat_lt, Bool, true, false, cond, List, [], ◌∷◌, ◌++◌, map, refl, sym, ap, ◌∙◌, subst, arith, is_le, ne_eqb, eqb-true, append-nil}
use Rattle.std.specs.List.{list_all}
use Rattle.vx_rows_values.specs.declared.order.OrderEntry.{OrderEntry}
use Rattle.vx_rows_values.specs.Values.{Row}
use Rattle.vx_rows_values.specs.Order.{compare_on, sorted, insert_sorted, sort_on}
use Rattle.vx_plan_nodes.specs.Streams.{Streams, bearing, Dealt}
use Rattle.vx_exchange_ends.proofs.Deals.{bearing-append, ranges-append}
use Rattle.vx_exec_laws.proofs.Bags.{and-left, and-right, and-both}
use Rattle.vx_exec_laws.proofs.Parts.{list_all-weaken}
use Rattle.vx_rows_values.proofs.Compare.{le-trans}
use Rattle.vx_exec_laws.proofs.Orders.{list_all-bearing, rows_of}
use Rattle.vx_exec_laws.proofs.Unary.{sort-sorted}
use Rattle.vx_exec_laws.proofs.Decks.{bearing-tag, tag-range}

abbrev pub insert_pair : List OrderEntry → ℕ × Row → List (ℕ × Row) → List (ℕ × Row)
insert_pair order t [] = t ∷ []
insert_pair order t (u ∷ us) = cond (is_le (compare_on order t.1 u.1)) (t ∷ u ∷ us) (u ∷ insert_pair order t us)

abbrev pub sort_pairs : List OrderEntry → List (ℕ × Row) → List (ℕ × Row)
sort_pairs order [] = []
sort_pairs order (t ∷ ts) = insert_pair order t (sort_pairs order ts)

insert-rows : (order : List OrderEntry) (t : ℕ × Row) (us : List (ℕ × Row)) → map (λ t. t.1) (insert_pair order t us) ≡ insert_sorted order t.1 (map (λ t. t.1) us)
insert-rows order t [] = refl
insert-rows order t (u ∷ us) = go (is_le (compare_on order t.1 u.1)) (insert-rows order t us)
  where
    go : (b : Bool) → map (λ t. t.1) (insert_pair order t us) ≡ insert_sorted order t.1 (map (λ t. t.1) us)
        → map (λ t. t.1) (cond b (t ∷ u ∷ us) (u ∷ insert_pair order t us)) ≡ cond b (t.1 ∷ u.1 ∷ map (λ t. t.1) us) (u.1 ∷ insert_sorted order t.1 (map (λ t. t.1) us))
    go true e = refl
    go false e = ap (λ xs. u.1 ∷ xs) e

sort-rows : (order : List OrderEntry) (ts : List (ℕ × Row)) → map (λ t. t.1) (sort_pairs order ts) ≡ sort_on order (map (λ t. t.1) ts)
sort-rows order [] = refl
sort-rows order (t ∷ ts) = insert-rows order t (sort_pairs order ts) ∙ ap (insert_sorted order t.1) (sort-rows order ts)

insert-range : (order : List OrderEntry) (n : ℕ) (t : ℕ × Row) (us : List (ℕ × Row)) → nat_lt t.0 n ≡ true → list_all (λ t. nat_lt t.0 n) us ≡ true → list_all (λ t. nat_lt t.0 n) (insert_pair order t us) ≡ true
insert-range order n t [] h k = and-both (nat_lt t.0 n) true h refl
insert-range order n t (u ∷ us) h k = go (is_le (compare_on order t.1 u.1)) (insert-range order n t us h (and-right (nat_lt u.0 n) (list_all (λ t. nat_lt t.0 n) us) k))
  where
    go : (b : Bool) → list_all (λ t. nat_lt t.0 n) (insert_pair order t us) ≡ true → list_all (λ t. nat_lt t.0 n) (cond b (t ∷ u ∷ us) (u ∷ insert_pair order t us)) ≡ true
    go true e = and-both (nat_lt t.0 n) (list_all (λ t. nat_lt t.0 n) (u ∷ us)) h k
    go false e = and-both (nat_lt u.0 n) (list_all (λ t. nat_lt t.0 n) (insert_pair order t us)) (and-left (nat_lt u.0 n) (list_all (λ t. nat_lt t.0 n) us) k) e

sort-range : (order : List OrderEntry) (n : ℕ) (ts : List (ℕ × Row)) → list_all (λ t. nat_lt t.0 n) ts ≡ true → list_all (λ t. nat_lt t.0 n) (sort_pairs order ts) ≡ true
sort-range order n [] h = refl
sort-range order n (t ∷ ts) h =
    insert-range order n t (sort_pairs order ts) (and-left (nat_lt t.0 n) (list_all (λ t. nat_lt t.0 n) ts) h) (sort-range order n ts (and-right (nat_lt t.0 n) (list_all (λ t. nat_lt t.0 n) ts) h))

-- a row that is no greater than the others goes to the front
insert-front : (order : List OrderEntry) (x : Row) (ys : List Row) → list_all (λ y. is_le (compare_on order x y)) ys ≡ true → insert_sorted order x ys ≡ x ∷ ys
insert-front order x [] h = refl
insert-front order x (y ∷ ys) h =
    ap (λ b. cond b (x ∷ y ∷ ys) (y ∷ insert_sorted order x ys)) (and-left (is_le (compare_on order x y)) (list_all (λ y. is_le (compare_on order x y)) ys) h)

pub sort-same : (order : List OrderEntry) (xs : List Row) → sorted order xs ≡ true → sort_on order xs ≡ xs
sort-same order [] h = refl
sort-same order (x ∷ xs) h =
    ap (insert_sorted order x) (sort-same order xs (and-right (list_all (λ y. is_le (compare_on order x y)) xs) (sorted order xs) h))
    ∙ insert-front order x xs (and-left (list_all (λ y. is_le (compare_on order x y)) xs) (sorted order xs) h)

bearing-cond : (i : ℕ) (b : Bool) (ts us : List (ℕ × Row)) → bearing i (cond b ts us) ≡ cond b (bearing i ts) (bearing i us)
bearing-cond i true ts us = refl
bearing-cond i false ts us = refl

insert-bearing : (order : List OrderEntry) (i : ℕ) (t : ℕ × Row) (us : List (ℕ × Row)) → sorted order (map (λ t. t.1) us) ≡ true
    → bearing i (insert_pair order t us) ≡ cond (t.0 == i) (insert_sorted order t.1 (bearing i us)) (bearing i us)
insert-bearing order i t [] h = refl
insert-bearing order i t (u ∷ us) h =
    bearing-cond i (is_le (compare_on order t.1 u.1)) (t ∷ u ∷ us) (u ∷ insert_pair order t us)
    ∙ go (is_le (compare_on order t.1 u.1)) refl (u.0 == i) (t.0 == i) (insert-bearing order i t us (and-right (list_all (λ y. is_le (compare_on order u.1 y)) (rows_of us)) (sorted order (rows_of us)) h))
  where
    others : list_all (λ y. is_le (compare_on order u.1 y)) (rows_of us) ≡ true
    others = and-left (list_all (λ y. is_le (compare_on order u.1 y)) (rows_of us)) (sorted order (rows_of us)) h

    least : is_le (compare_on order t.1 u.1) ≡ true → list_all (λ y. is_le (compare_on order t.1 y)) (bearing i us) ≡ true
    least e = list_all-bearing (λ y. is_le (compare_on order t.1 y)) i us
        (list_all-weaken (λ y. is_le (compare_on order u.1 y)) (λ y. is_le (compare_on order t.1 y)) (λ y k. le-trans order t.1 u.1 y e k) (rows_of us) others)

    go : (c : Bool) → is_le (compare_on order t.1 u.1) ≡ c → (a b : Bool) → bearing i (insert_pair order t us) ≡ cond b (insert_sorted order t.1 (bearing i us)) (bearing i us)
        → cond c (cond b (t.1 ∷ cond a (u.1 ∷ bearing i us) (bearing i us)) (cond a (u.1 ∷ bearing i us) (bearing i us))) (cond a (u.1 ∷ bearing i (insert_pair order t us)) (bearing i (insert_pair order t us)))
        ≡ cond b (insert_sorted order t.1 (cond a (u.1 ∷ bearing i us) (bearing i us))) (cond a (u.1 ∷ bearing i us) (bearing i us))
    go true e true true ih = sym (ap (λ b. cond b (t.1 ∷ u.1 ∷ bearing i us) (u.1 ∷ insert_sorted order t.1 (bearing i us))) e)
    go true e true false ih = refl
    go true e false true ih = sym (insert-front order t.1 (bearing i us) (least e))
    go true e false false ih = refl
    go false e true true ih = ap (λ xs. u.1 ∷ xs) ih ∙ sym (ap (λ b. cond b (t.1 ∷ u.1 ∷ bearing i us) (u.1 ∷ insert_sorted order t.1 (bearing i us))) e)
    go false e true false ih = ap (λ xs. u.1 ∷ xs) ih
    go false e false true ih = ih
    go false e false false ih = ih

sort-bearing : (order : List OrderEntry) (i : ℕ) (ts : List (ℕ × Row)) → bearing i (sort_pairs order ts) ≡ sort_on order (bearing i ts)
sort-bearing order i [] = refl
sort-bearing order i (t ∷ ts) =
    let P : List Row → Type 0 = λ xs. sorted order xs ≡ true in
    insert-bearing order i t (sort_pairs order ts) (subst P (sym (sort-rows order ts)) (sort-sorted order (rows_of ts)))
    ∙ ap (λ xs. cond (t.0 == i) (insert_sorted order t.1 xs) xs) (sort-bearing order i ts) ∙ go (t.0 == i)
  where
    go : (b : Bool) → cond b (insert_sorted order t.1 (sort_on order (bearing i ts))) (sort_on order (bearing i ts)) ≡ sort_on order (cond b (t.1 ∷ bearing i ts) (bearing i ts))
    go true = refl
    go false = refl

-- the lists one behind the other, with their numbers
abbrev pub numbered_lists : ℕ → Streams → List (ℕ × Row)
numbered_lists zero l = []
numbered_lists (suc n) l = numbered_lists n l ++ map (λ row. (n, row)) (l n)

numbered-range : (m n : ℕ) (l : Streams) → n ≤ m → list_all (λ t. nat_lt t.0 m) (numbered_lists n l) ≡ true
numbered-range m zero l h = refl
numbered-range m (suc n) l h =
    let e : map (λ row. (n, row)) (l n) ++ [] ≡ map (λ row. (n, row)) (l n) = append-nil (map (λ row. (n, row)) (l n)) in
    let P : List (ℕ × Row) → Type 0 = λ ts. list_all (λ t. nat_lt t.0 m) ts ≡ true in
    ranges-append m (numbered_lists n l) (map (λ row. (n, row)) (l n)) (numbered-range m n l (omega arith)) (subst P e (tag-range n m (l n) [] (omega arith) refl))

bearing-past : (n : ℕ) (l : Streams) (i : ℕ) → n ≤ i → bearing i (numbered_lists n l) ≡ []
bearing-past zero l i h = refl
bearing-past (suc n) l i h =
    let other : (n == i) ≡ false = ne_eqb n i (omega arith) in
    bearing-append i (numbered_lists n l) (map (λ row. (n, row)) (l n))
    ∙ ap (λ xs. xs ++ bearing i (map (λ row. (n, row)) (l n))) (bearing-past n l i (omega arith))
    ∙ bearing-tag i n (l n) ∙ ap (λ b. cond b (l n) []) other

bearing-lists : (n : ℕ) (l : Streams) (i : ℕ) → i < n → bearing i (numbered_lists n l) ≡ l i
bearing-lists zero l i h = absurd (omega arith)
bearing-lists (suc n) l i h =
    bearing-append i (numbered_lists n l) (map (λ row. (n, row)) (l n))
    ∙ ap (λ xs. bearing i (numbered_lists n l) ++ xs) (bearing-tag i n (l n)) ∙ go (n == i) refl (bearing-lists n l i)
  where
    go : (b : Bool) → (n == i) ≡ b → (i < n → bearing i (numbered_lists n l) ≡ l i) → bearing i (numbered_lists n l) ++ cond b (l n) [] ≡ l i
    go true e ih =
        let same : n ≡ i = eqb-true n i e in
        ap (λ xs. xs ++ l n) (bearing-past n l i (omega (arith, same))) ∙ ap l same
    go false e ih =
        let other = Rattle.std.proofs.lemmas.Bool.eqb-false n i e in
        append-nil (bearing i (numbered_lists n l)) ∙ ih (omega arith)

pub sorted-shuffle : (order : List OrderEntry) (m : ℕ) (l : Streams) → ((i : ℕ) → i < m → sorted order (l i) ≡ true) → (xs : List Row) × Dealt m xs l × (sorted order xs ≡ true)
sorted-shuffle order m l h =
    let ts = sort_pairs order (numbered_lists m l) in
    let P : List Row → Type 0 = λ xs. sorted order xs ≡ true in (
      map (λ t. t.1) ts,
      record {
        numbered = ts;
        whole = refl;
        in_range = sort-range order m (numbered_lists m l) (numbered-range m m l (omega arith));
        lists_are = λ i k. sort-bearing order i (numbered_lists m l) ∙ ap (sort_on order) (bearing-lists m l i k) ∙ sort-same order (l i) (h i k);
      },
      subst P (sym (sort-rows order (numbered_lists m l))) (sort-sorted order (rows_of (numbered_lists m l))),
    )

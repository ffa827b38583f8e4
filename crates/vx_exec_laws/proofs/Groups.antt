-- Groups of streams, and of all rows.
use Rattle.std.proofs.Common.{◌≡◌, ℕ, zero, suc, ◌<◌, ◌≤◌, ◌==◌, nat_lt, Bool, true, false, cond, not, ◌&&◌, List, [], ◌∷◌, ◌++◌, map, length, refl, sym, ap, ap₂, ◌∙◌, subst, arith, Some, slice_get, eqb-true, lt-ltb, is_le}
use Rattle.std.proofs.lemmas.Bool.{not-true}
use Rattle.std.specs.List.{list_all}
use Rattle.vx_rows_values.specs.declared.order.OrderEntry.{OrderEntry}
use Rattle.vx_rows_values.specs.Values.{Row, row_eq, pick}
use Rattle.vx_rows_values.specs.Order.{order_columns, agree, sorted, compare_on, insert_sorted, sort_on}
use Rattle.vx_rows_values.specs.Bags.{total, count, SameRows}
use Rattle.vx_rows_values.specs.Keys.{HasKey}
use Rattle.vx_plan_nodes.specs.Plan.{Route, Aggregate}
use Rattle.vx_catalog_relations.specs.Catalog.{all_below}
use Rattle.vx_plan_nodes.specs.Serial.{group_keys, group_row, group_fits, of_key, aggregate_of}
use Rattle.vx_plan_nodes.specs.Streams.{Streams, joined}
use Rattle.vx_plan_nodes.specs.Routes.{Routing}
use Rattle.vx_check_rules.specs.Rules.{within, copied, copied_order, numbers_below}
use Rattle.vx_check_rules.specs.Claims.{InItsStream}
use Rattle.vx_exec_laws.proofs.Bags.{and-left, and-right, and-both, total-map, total-joined, across-ext, SameRows-all, stream-all}
use Rattle.vx_exec_laws.proofs.Parts.{list_all-weaken, list_all-always}
use Rattle.vx_exec_laws.proofs.Keys.{agree-within}
use Rattle.vx_rows_values.proofs.Compare.{row_eq-same, row_eq-refl, agree-both}
use Rattle.vx_exec_laws.proofs.Unary.{sort-all, map-all, project-sorted}
use Rattle.vx_exec_laws.proofs.Copies.{copied-cons}
use Rattle.vx_exec_laws.proofs.OrderFacts.{compare-pick, copied-columns}
use Rattle.vx_exec_laws.proofs.Join.{total-all-ext, pick-left, value-left}
use Rattle.vx_exec_laws.proofs.JoinOrder.{all-append, all-and, wide}
use Rattle.vx_exec_laws.proofs.Widths.{firsts-all, picks-wide}
use Rattle.vx_exec_laws.proofs.Apart.{firsts-same, picks-same, firsts-joined, firsts-sorted, of_key-same, group_row-same, group_fits-same, key-apart, firsts-at-most, agree-value, below-contains, rows-equal, count-witness-in, count-mono-in}

pub joined-all : (p : Row → Bool) (n : ℕ) (s : Streams) → ((w : ℕ) → w < n → list_all p (s w) ≡ true) → list_all p (joined n s) ≡ true
joined-all p zero s h = refl
joined-all p (suc n) s h = all-append p (joined n s) (s n) (joined-all p n s (λ w l. h w (omega arith))) (h n (omega arith))

-- what holds of each row's key holds of all keys
pub keys-all : (by : List ℕ) (p : Row → Bool) (xs : List Row) → list_all (λ x. p (pick by x)) xs ≡ true → list_all p (group_keys by xs) ≡ true
keys-all by p xs h = firsts-all p (map (pick by) xs) (map-all p (pick by) xs h)

pub keys-same : (by : List ℕ) {xs ys : List Row} → SameRows xs ys → SameRows (group_keys by xs) (group_keys by ys)
keys-same by s = firsts-same (picks-same by s)

abbrev pub groups : List ℕ → List Aggregate → List Row → List Row
groups by aggregates xs = map (group_row by aggregates xs) (group_keys by xs)

pub groups-same : (by : List ℕ) (aggregates : List Aggregate) (xs ys : List Row) → SameRows xs ys → SameRows (groups by aggregates xs) (groups by aggregates ys)
groups-same by aggregates xs ys s = record {
  totals = λ f.
      let k = keys-same by s in
      total-map f (group_row by aggregates xs) (group_keys by xs)
      ∙ (k.totals (λ key. f (group_row by aggregates xs key))
      ∙ (total-all-ext (λ key. true) (λ key. f (group_row by aggregates xs key)) (λ key. f (group_row by aggregates ys key))
      (λ key t. ap f (group_row-same by aggregates xs ys key (of_key-same by key s))) (group_keys by ys) (list_all-always (λ key. true) (λ key. refl) (group_keys by ys))
      ∙ sym (total-map f (group_row by aggregates ys) (group_keys by ys))));
}

-- both tests pass, or neither does
abbrev alike : Bool → Bool → Bool
alike true b = b
alike false b = not b

alike-from : (a b : Bool) → a ≡ b → alike a b ≡ true
alike-from true b e = sym e
alike-from false b e = ap not (sym e)

alike-same : (a b : Bool) → alike a b ≡ true → a ≡ b
alike-same true b e = sym e
alike-same false b e = sym (not-true b e)

same-all : {X : Type 0} (f g : X → Bool) (xs : List X) → list_all (λ x. alike (f x) (g x)) xs ≡ true → list_all f xs ≡ list_all g xs
same-all f g [] h = refl
same-all f g (x ∷ xs) h =
    let rest : Bool = list_all (λ y. alike (f y) (g y)) xs in
    ap₂ (λ a b. a && b) (alike-same (f x) (g x) (and-left (alike (f x) (g x)) rest h)) (same-all f g xs (and-right (alike (f x) (g x)) rest h))

pub fits-same-rows : (by : List ℕ) (aggregates : List Aggregate) (xs ys : List Row) → SameRows xs ys
    → list_all (group_fits by aggregates xs) (group_keys by xs) ≡ true → list_all (group_fits by aggregates ys) (group_keys by ys) ≡ true
fits-same-rows by aggregates xs ys s h =
    list_all-weaken (group_fits by aggregates xs) (group_fits by aggregates ys)
    (λ key e. sym (group_fits-same by aggregates xs ys key (of_key-same by key s)) ∙ e) (group_keys by ys)
    (SameRows-all (keys-same by s) (group_fits by aggregates xs) h)

module _ (goes : Routing) (rt : Route) (cols by : List ℕ) (aggregates : List Aggregate) (n : ℕ) (s : Streams) (base : List Row)
    (sub : within cols by ≡ true) (same : SameRows (joined n s) base) (apart : InItsStream goes rt cols n s) where
  keys-joined : SameRows (joined n (λ i. group_keys by (s i))) (group_keys by base)
  keys-joined = firsts-joined goes rt cols by n s (λ i. group_keys by (s i)) base sub (λ w l. refl) same apart

  pub groups-joined : (s' : Streams) → ((w : ℕ) → w < n → groups by aggregates (s w) ≡ s' w) → SameRows (joined n s') (groups by aggregates base)
  groups-joined s' run = record {
    totals = λ f.
        let g : Row → ℕ = λ key. f (group_row by aggregates base key) in
        total-joined f n s'
        ∙ (across-ext n (λ i. total f (s' i)) (λ i. total g (group_keys by (s i)))
        (λ i l. ap (total f) (sym (run i l)) ∙ (total-map f (group_row by aggregates (s i)) (group_keys by (s i))
        ∙ total-all-ext (λ key. row_eq (group_row by aggregates (s i) key) (group_row by aggregates base key))
        (λ key. f (group_row by aggregates (s i) key)) g
        (λ key e. ap f (row_eq-same _ _ e)) (group_keys by (s i))
        (keys-all by (λ key. row_eq (group_row by aggregates (s i) key) (group_row by aggregates base key)) (s i)
        (list_all-weaken (λ x. goes rt (pick cols x) n == i) (λ x. row_eq (group_row by aggregates (s i) (pick by x)) (group_row by aggregates base (pick by x)))
        (λ x h. let P : Row → Type 0 = λ v. row_eq (group_row by aggregates (s i) (pick by x)) v ≡ true in
        subst P (group_row-same by aggregates (s i) base (pick by x) (key-apart goes rt cols by n s base sub same apart i l x h)) (row_eq-refl (group_row by aggregates (s i) (pick by x))))
        (s i) (apart i l)))))
        ∙ (sym (total-joined g n (λ i. group_keys by (s i))) ∙ (keys-joined.totals g ∙ sym (total-map f (group_row by aggregates base) (group_keys by base)))));
  }

  -- the keys of a stream overflow there where they do among all rows
  stream-fits : (i : ℕ) → i < n → list_all (group_fits by aggregates (s i)) (group_keys by (s i)) ≡ list_all (group_fits by aggregates base) (group_keys by (s i))
  stream-fits i l = same-all (group_fits by aggregates (s i)) (group_fits by aggregates base) (group_keys by (s i))
      (keys-all by (λ key. alike (group_fits by aggregates (s i) key) (group_fits by aggregates base key)) (s i)
      (list_all-weaken (λ x. goes rt (pick cols x) n == i) (λ x. alike (group_fits by aggregates (s i) (pick by x)) (group_fits by aggregates base (pick by x)))
      (λ x e. alike-from _ _ (group_fits-same by aggregates (s i) base (pick by x) (key-apart goes rt cols by n s base sub same apart i l x e))) (s i) (apart i l)))

  pub fits-joined : ((w : ℕ) → w < n → list_all (group_fits by aggregates (s w)) (group_keys by (s w)) ≡ true) → list_all (group_fits by aggregates base) (group_keys by base) ≡ true
  fits-joined h = SameRows-all keys-joined (group_fits by aggregates base) (joined-all (group_fits by aggregates base) n (λ i. group_keys by (s i)) (λ i l. sym (stream-fits i l) ∙ h i l))

  -- the other direction: where no key of all rows overflows, none of a stream does
  pub fits-split : list_all (group_fits by aggregates base) (group_keys by base) ≡ true → (i : ℕ) → i < n → list_all (group_fits by aggregates (s i)) (group_keys by (s i)) ≡ true
  fits-split h i l = stream-fits i l ∙ stream-all n (λ j. group_keys by (s j)) (group_keys by base) keys-joined (group_fits by aggregates base) h i l

-- order
pub slice-below : (kept : List ℕ) (c d : ℕ) → slice_get kept c ≡ Some d → c < length kept
slice-below [] c d e = cc
slice-below (k ∷ kept) zero d e = omega arith
slice-below (k ∷ kept) (suc c) d e = let h = slice-below kept c d e in omega (arith, h)

pub copied-below : (kept cs ds : List ℕ) → copied kept cs ≡ Some ds → all_below (length kept) cs ≡ true
copied-below kept [] ds e = refl
copied-below kept (c ∷ cs) ds e =
    let w = copied-cons kept c cs ds e in
    and-both (nat_lt c (length kept)) (all_below (length kept) cs) (lt-ltb c (length kept) (slice-below kept c w.0 w.3)) (copied-below kept cs w.1 w.4)

pub extended-sorted : (order : List OrderEntry) (v : ℕ) (g : Row → Row) (tail : Row → Row) → ((x : Row) → g x ≡ x ++ tail x) → all_below v (order_columns order) ≡ true
    → (xs : List Row) → wide v xs ≡ true → sorted order xs ≡ true → sorted order (map g xs) ≡ true
extended-sorted order v g tail e below [] w h = refl
extended-sorted order v g tail e below (x ∷ xs) w h =
    let later = and-right (length x == v) (wide v xs) w in
    let cols : List ℕ = order_columns order in
    let at_g : (y : Row) → length y ≡ v → pick cols (g y) ≡ pick cols y = λ y l. ap (pick cols) (e y) ∙ pick-left v cols y (tail y) below l in
    and-both (list_all (λ y. is_le (compare_on order (g x) y)) (map g xs)) (sorted order (map g xs))
    (map-all (λ y. is_le (compare_on order (g x) y)) g xs
    (list_all-weaken (λ y. (length y == v) && is_le (compare_on order x y)) (λ y. is_le (compare_on order (g x) (g y)))
    (λ y k.
    let a : pick cols (g x) ≡ pick cols x = at_g x (eqb-true (length x) v (and-left (length x == v) (wide v xs) w)) in
    let b : pick cols (g y) ≡ pick cols y = at_g y (eqb-true (length y) v (and-left (length y == v) (is_le (compare_on order x y)) k)) in
    ap is_le (compare-pick order (g x) (g y) x y a b) ∙ and-right (length y == v) (is_le (compare_on order x y)) k)
    xs (all-and (λ y. length y == v) (λ y. is_le (compare_on order x y)) xs later (and-left (list_all (λ y. is_le (compare_on order x y)) xs) (sorted order xs) h))))
    (extended-sorted order v g tail e below xs later (and-right (list_all (λ y. is_le (compare_on order x y)) xs) (sorted order xs) h))

-- rows that begin with the columns sorted on are sorted as these are
pub extended-sort : (order : List OrderEntry) (v : ℕ) (g : Row → Row) → ((x : Row) → length x ≡ v → pick (order_columns order) (g x) ≡ pick (order_columns order) x)
    → (xs : List Row) → wide v xs ≡ true → sort_on order (map g xs) ≡ map g (sort_on order xs)
extended-sort order v g same [] w = refl
extended-sort order v g same (x ∷ xs) w =
    let later = and-right (length x == v) (wide v xs) w in
    ap (insert_sorted order (g x)) (extended-sort order v g same xs later)
    ∙ insert (eqb-true (length x) v (and-left (length x == v) (wide v xs) w)) (sort_on order xs) (sort-all (λ row. length row == v) order xs later)
  where
    insert : length x ≡ v → (ys : List Row) → wide v ys ≡ true → insert_sorted order (g x) (map g ys) ≡ map g (insert_sorted order x ys)
    insert l [] w = refl
    insert l (y ∷ ys) w =
        let a : pick (order_columns order) (g x) ≡ pick (order_columns order) x = same x l in
        let b : pick (order_columns order) (g y) ≡ pick (order_columns order) y = same y (eqb-true (length y) v (and-left (length y == v) (wide v ys) w)) in
        ap (λ o. cond (is_le o) (g x ∷ g y ∷ map g ys) (g y ∷ insert_sorted order (g x) (map g ys))) (compare-pick order (g x) (g y) x y a b)
        ∙ go (is_le (compare_on order x y)) (insert l ys (and-right (length y == v) (wide v ys) w))
      where
        go : (b : Bool) → insert_sorted order (g x) (map g ys) ≡ map g (insert_sorted order x ys)
            → cond b (g x ∷ g y ∷ map g ys) (g y ∷ insert_sorted order (g x) (map g ys)) ≡ map g (cond b (x ∷ y ∷ ys) (y ∷ insert_sorted order x ys))
        go true e = refl
        go false e = ap (λ l. g y ∷ l) e

pub groups-sorted : (by : List ℕ) (order ds : List OrderEntry) (aggregates : List Aggregate) → copied_order by order ≡ Some ds → (xs : List Row) → sorted ds xs ≡ true → sorted order (groups by aggregates xs) ≡ true
groups-sorted by order ds aggregates e xs h =
    extended-sorted order (length by) (group_row by aggregates xs) (λ key. map (λ a. aggregate_of a (of_key by key xs)) aggregates) (λ key. refl)
    (copied-below by (order_columns order) (order_columns ds) (copied-columns by order ds e)) (group_keys by xs) (firsts-all (λ row. length row == length by) (map (pick by) xs) (picks-wide by xs))
    (firsts-sorted order (map (pick by) xs) (project-sorted by order ds e xs h))

-- keys
pub groups-key : (by x : List ℕ) (aggregates : List Aggregate) (xs : List Row) → within (numbers_below (length by)) x ≡ true → HasKey x (groups by aggregates xs)
groups-key by x aggregates xs w row =
    let g : Row → Row = group_row by aggregates xs in
    let ks : List Row = group_keys by xs in
    let P : Row → Bool = λ r. length r == length by in
    let p : Row → Bool = λ key. agree x row (g key) in
    let wd : list_all P ks ≡ true = firsts-all P (map (pick by) xs) (picks-wide by xs) in
    let e : count (agree x row) (map g ks) ≡ count p ks = total-map (λ y. cond (agree x row y) 1 0) g ks in
    let b : count p ks ≤ 1 = count-witness-in P p ks wd (λ k0 h0 e0.
    let a : count p ks ≤ count (row_eq k0) ks = count-mono-in P p (row_eq k0) (λ k h e1.
    let same : k0 ≡ k = rows-equal k0 k (let u : length k0 ≡ length by = eqb-true _ _ h0 in let v : length k ≡ length by = eqb-true _ _ h in omega arith) (λ c l.
    let u : length k0 ≡ length by = eqb-true _ _ h0 in
    let v : length k ≡ length by = eqb-true _ _ h in
    sym (value-left k0 _ c l) ∙ (agree-value (numbers_below (length by)) c (g k0) (g k) (below-contains (length by) c (omega arith))
    (agree-within (numbers_below (length by)) x (g k0) (g k) w (agree-both x row (g k0) (g k) e0 e1)) ∙ value-left k _ c (omega arith))) in
    let Q : Row → Type 0 = λ v. row_eq k0 v ≡ true in
    subst Q same (row_eq-refl k0)) ks wd in
    let m = firsts-at-most k0 (map (pick by) xs) in
    omega (arith, a, m)) in
    omega (arith, e, b)

-- Some columns of rows, each at the place at which it was named: keys and orders say of them what they say of the rows.
use Rattle.std.proofs.Common.{◌≡◌, ℕ, ◌+◌, ◌<◌, slice_index_or, List, [], ◌∷◌, ◌++◌, refl, sym, ap, ◌∙◌, length, map, arith}
use Rattle.std.specs.Prelude.{position, pos}
use Rattle.std.specs.List.{range_with_len}
use Rattle.std.specs.Ordering.{ordering_then}
use Rattle.std.proofs.Math.Seq.{get_or-append_seam}
use Rattle.std.proofs.lemmas.List.{append_assoc, length-append, length-map, map-append, map-id}
use Rattle.std.proofs.lemmas.List.FromFn.{length-range_with_len, get_or-range_with_len, map-range_with_len_more}
use Rattle.vx_rows_values.specs.Values.{Val, Row, num, value_at, pick, row_eq}
use Rattle.vx_rows_values.specs.declared.order.OrderEntry.{OrderEntry}
use Rattle.vx_rows_values.specs.Order.{agree, compare_on, compare_values, order_columns}
use Rattle.vx_rows_values.specs.Keys.{first_clash, clash_from, clash_or}
use Rattle.vx_rows.specs.View.{AreColumns}
use Rattle.vx_catalog_relations.proofs.NameFacts.{position-map}
use Rattle.vx_catalog.specs.Loading.{fall_from, first_fall, in_place, in_place_from}

-- the value behind a front
seam : (front : Row) (x : Val) (xs : Row) (k : ℕ) → length front ≡ k → value_at (front ++ x ∷ xs) k ≡ x
seam front x xs k e = ap (λ n. value_at (front ++ x ∷ xs) n) (sym e) ∙ get_or-append_seam front x xs (num (pos 0))

longer : (front : Row) (x : Val) (k : ℕ) → length front ≡ k → length (front ++ x ∷ []) ≡ k + 1
longer front x k e = omega (arith, length-append front (x ∷ []), e)

-- ---- keys

pick-from : (k : ℕ) (front xs : Row) → length front ≡ k → map (λ c. value_at (front ++ xs) c) (range_with_len k (length xs)) ≡ xs
pick-from k front [] e = refl
pick-from k front (x ∷ xs) e =
    ap (λ v. v ∷ map (λ c. value_at (front ++ x ∷ xs) c) (range_with_len (k + 1) (length xs))) (seam front x xs k e)
    ∙ ap (λ vs. x ∷ vs) (ap (λ row. map (λ c. value_at row c) (range_with_len (k + 1) (length xs))) (sym (append_assoc front (x ∷ []) xs)) ∙ pick-from (k + 1) (front ++ x ∷ []) xs (longer front x k e))

-- all places of a row
pick-all : (n : ℕ) (xs : Row) → length xs ≡ n → pick (range_with_len 0 n) xs ≡ xs
pick-all n xs e = ap (λ m. pick (range_with_len 0 m) xs) (sym e) ∙ pick-from 0 [] xs refl

agree-placed : (cols : List ℕ) (a b : Row) → agree (range_with_len 0 (length cols)) (pick cols a) (pick cols b) ≡ agree cols a b
agree-placed cols a b =
    ap (λ xs. row_eq xs (pick (range_with_len 0 (length cols)) (pick cols b))) (pick-all (length cols) (pick cols a) (length-map cols (λ c. value_at a c)))
    ∙ ap (λ ys. row_eq (pick cols a) ys) (pick-all (length cols) (pick cols b) (length-map cols (λ c. value_at b c)))

position-placed : (cols : List ℕ) (row : Row) (seen : List Row)
    → position (agree (range_with_len 0 (length cols)) (pick cols row)) (map (pick cols) seen) ≡ position (agree cols row) seen
position-placed cols row seen =
    position-map (agree (range_with_len 0 (length cols)) (pick cols row)) (pick cols) seen ∙ (λ i. position (λ y. agree-placed cols row y i) seen)

clash-placed : (cols : List ℕ) (seen rows : List Row) → clash_from (range_with_len 0 (length cols)) (map (pick cols) seen) (map (pick cols) rows) ≡ clash_from cols seen rows
clash-placed cols seen [] = refl
clash-placed cols seen (row ∷ rows) =
    let all = range_with_len 0 (length cols) in
    let more : clash_from all (map (pick cols) seen ++ pick cols row ∷ []) (map (pick cols) rows) ≡ clash_from cols (seen ++ row ∷ []) rows =
    ap (λ xs. clash_from all xs (map (pick cols) rows)) (sym (map-append (pick cols) seen (row ∷ []))) ∙ clash-placed cols (seen ++ row ∷ []) rows in
    λ i. clash_or (length-map seen (pick cols) i) (position-placed cols row seen i) (more i)

pub first-clash-placed : (cols : List ℕ) (rows : List Row) → first_clash (range_with_len 0 (length cols)) (map (pick cols) rows) ≡ first_clash cols rows
first-clash-placed cols rows = clash-placed cols [] rows

-- ---- orders

compare-from : (order : List OrderEntry) (k : ℕ) (a b front others : Row) → length front ≡ k → length others ≡ k
    → compare_on (in_place_from k order) (front ++ pick (order_columns order) a) (others ++ pick (order_columns order) b) ≡ compare_on order a b
compare-from [] k a b front others e f = refl
compare-from (entry ∷ order) k a b front others e f =
    let x = value_at a entry.column in
    let y = value_at b entry.column in
    let xs = pick (order_columns order) a in
    let ys = pick (order_columns order) b in
    let more : compare_on (in_place_from (k + 1) order) (front ++ x ∷ xs) (others ++ y ∷ ys) ≡ compare_on order a b =
    ap (λ row. compare_on (in_place_from (k + 1) order) row (others ++ y ∷ ys)) (sym (append_assoc front (x ∷ []) xs))
    ∙ (ap (λ row. compare_on (in_place_from (k + 1) order) ((front ++ x ∷ []) ++ xs) row) (sym (append_assoc others (y ∷ []) ys))
    ∙ compare-from order (k + 1) a b (front ++ x ∷ []) (others ++ y ∷ []) (longer front x k e) (longer others y k f)) in
    ap (λ v. ordering_then (compare_values entry.falling v (value_at (others ++ y ∷ ys) k)) (compare_on (in_place_from (k + 1) order) (front ++ x ∷ xs) (others ++ y ∷ ys))) (seam front x xs k e)
    ∙ (ap (λ v. ordering_then (compare_values entry.falling x v) (compare_on (in_place_from (k + 1) order) (front ++ x ∷ xs) (others ++ y ∷ ys))) (seam others y ys k f)
    ∙ ap (λ o. ordering_then (compare_values entry.falling x y) o) more)

compare-placed : (order : List OrderEntry) (a b : Row) → compare_on (in_place order) (pick (order_columns order) a) (pick (order_columns order) b) ≡ compare_on order a b
compare-placed order a b = compare-from order 0 a b [] [] refl refl

fall-placed : (order : List OrderEntry) (n : ℕ) (last : Row) (rows : List Row)
    → fall_from (in_place order) n (pick (order_columns order) last) (map (pick (order_columns order)) rows) ≡ fall_from order n last rows
fall-placed order n last [] = refl
fall-placed order n last (row ∷ rows) = rw (compare-placed order row last, fall-placed order (n + 1) row rows) refl

pub first-fall-placed : (order : List OrderEntry) (rows : List Row) → first_fall (in_place order) (map (pick (order_columns order)) rows) ≡ first_fall order rows
unfolding first_fall
first-fall-placed order [] = refl
first-fall-placed order (row ∷ rows) = fall-placed order 1 row rows

-- the places of columns are columns of what is kept
pub places-there : {X : Type 0} (cols : List ℕ) (f : ℕ → X) → AreColumns (length (map f cols)) (range_with_len 0 (length cols))
places-there cols f k d l =
    let n = length cols in
    let near : k < n = omega (arith, l, length-range_with_len 0 n) in
    omega (arith, near, length-map cols f, get_or-range_with_len 0 n k d near)

-- the columns of an order, likewise
order-places : (k : ℕ) (order : List OrderEntry) → order_columns (in_place_from k order) ≡ range_with_len k (length order)
order-places k [] = refl
order-places k (e ∷ order) = ap (λ cs. k ∷ cs) (order-places (k + 1) order)

pub order-there : {X : Type 0} (order : List OrderEntry) (f : ℕ → X) → AreColumns (length (map f (order_columns order))) (order_columns (in_place order))
order-there order f k d l =
    let n = length order in
    let places = order-places 0 order in
    let near : k < n = omega (arith, l, ap length places, length-range_with_len 0 n) in
    omega (arith, near, length-map (order_columns order) f, length-map order (λ e. e.column), ap (λ cs. slice_index_or cs k d) places, get_or-range_with_len 0 n k d near)

-- one entry more
in-place-more : (k : ℕ) (order : List OrderEntry) (e : OrderEntry) (n : ℕ) → k + length order ≡ n → in_place_from k (order ++ e ∷ []) ≡ in_place_from k order ++ record { column = n; falling = e.falling } ∷ []
in-place-more k [] e n h = let same : k ≡ n = omega (arith, h) in ap (λ m. record { column = m; falling = e.falling } ∷ []) same
in-place-more k (f ∷ order) e n h = ap (λ es. record { column = k; falling = f.falling } ∷ es) (in-place-more (k + 1) order e n (omega (arith, h)))

pub in-place-next : (order : List OrderEntry) (e : OrderEntry) (n : ℕ) → length order ≡ n → in_place (order ++ e ∷ []) ≡ in_place order ++ record { column = n; falling = e.falling } ∷ []
in-place-next order e n h = in-place-more 0 order e n (omega (arith, h))

pub place-next : (n : ℕ) → range_with_len 0 (n + 1) ≡ range_with_len 0 n ++ n ∷ []
place-next n = sym (map-id (range_with_len 0 (n + 1))) ∙ (map-range_with_len_more (λ k. k) 0 n n (omega arith) ∙ ap (λ ks. ks ++ n ∷ []) (map-id (range_with_len 0 n)))

-- Places in order are the positions of rows in order.
use Rattle.std.proofs.Common.{◌≡◌, ℕ, zero, suc, ◌<◌, Bool, true, false, List, [], ◌∷◌, map, length, get_or, refl, sym, ap, ◌∙◌, Ordering, Less, Equal, Greater}
use Rattle.std.specs.Ordering.{ordering_then, int_cmp}
use Rattle.std.specs.List.{AllByRecursion}
use Rattle.std.specs.Cmp.{IsTotalOrder}
use Rattle.std.proofs.lemmas.Cmp.{on_total, then_total, back_total}
use Rattle.vx_rows_values.proofs.Compare.{val_cmp_total, compare_on_total}
use Rattle.vx_rows_values.specs.declared.order.OrderEntry.{OrderEntry}
use Rattle.vx_rows_values.specs.declared.value.ColType.{ColType}
use Rattle.vx_rows_values.specs.declared.value.ColType.TheVariants as kind
use Rattle.vx_rows.specs.declared.sorting.SortPlace.{SortPlace}
use Rattle.vx_rows_values.specs.Values.{Val, num, text, Row, value_at}
use Rattle.vx_rows_values.specs.Order.{compare_values, compare_on, sort_on}
use Rattle.vx_rows.specs.Lists.{each_below}
use Rattle.vx_rows_values.specs.Types.{type_of, type_at, Fits}
use Rattle.vx_rows.specs.View.{ArePositions}
use Rattle.vx_rows.specs.Sorting.{sort_by, order_on, number_of, first_number, first_falls, place_of, compare_places}
use Rattle.vx_rows.proofs.Below.{each_below-all, all_at, all_here, map-each_below, each_below-is}
use Rattle.vx_rows.proofs.SortFacts.{sort_by-all, sort_by-map, sort_by-is}

-- rows at two positions
abbrev compare_at : List OrderEntry → List Row → ℕ → ℕ → Ordering
compare_at order rows i j = compare_on order (get_or rows i []) (get_or rows j [])

-- the type of the value in the first column of an order
abbrev first_type : List OrderEntry → Row → ColType
first_type [] row = kind.Int
first_type (e ∷ order) row = type_of (value_at row e.column)

then-twice : (o p : Ordering) → ordering_then o (ordering_then o p) ≡ ordering_then o p
then-twice Less p = refl
then-twice Equal p = refl
then-twice Greater p = refl

-- where two values are of one type, a number put before each changes nothing
number-first : (falling : Bool) (u v : Val) (o : Ordering) → type_of u ≡ type_of v
    → ordering_then (compare_values falling (num (number_of u)) (num (number_of v))) (ordering_then (compare_values falling u v) o) ≡ ordering_then (compare_values falling u v) o
number-first false (num x) (num y) o e = then-twice (int_cmp x y) o
number-first true (num x) (num y) o e = then-twice (int_cmp y x) o
number-first falling (num x) (text y) o e = cc
number-first falling (text x) (num y) o e = cc
number-first false (text x) (text y) o e = refl
number-first true (text x) (text y) o e = refl

same-order : (order : List OrderEntry) (a b : Row) → first_type order a ≡ first_type order b
    → ordering_then (compare_values (first_falls order) (num (first_number order a)) (num (first_number order b))) (compare_on order a b) ≡ compare_on order a b
same-order [] a b e = refl
same-order (f ∷ order) a b e = number-first f.falling (value_at a f.column) (value_at b f.column) (compare_on order a b) e

value-type : (row : Row) (c : ℕ) → type_of (value_at row c) ≡ type_at (map type_of row) c
value-type [] c = refl
value-type (v ∷ row) zero = refl
value-type (v ∷ row) (suc c) = value-type row c

abbrev type_of_first : List ColType → List OrderEntry → ColType
type_of_first types [] = kind.Int
type_of_first types (e ∷ order) = type_at types e.column

fit-type : (types : List ColType) (order : List OrderEntry) (row : Row) → Fits types row → first_type order row ≡ type_of_first types order
fit-type types [] row f = refl
fit-type types (e ∷ order) row f = value-type row e.column ∙ ap (λ t. type_at t e.column) f.types_are

-- places are in a total order
values_total : (falling : Bool) → IsTotalOrder (compare_values falling)
values_total false = val_cmp_total
values_total true = back_total val_cmp_total

pub places_total : (falling : Bool) (order : List OrderEntry) (rows : List Row) → IsTotalOrder (compare_places falling order rows)
places_total falling order rows =
    then_total (on_total (λ p. num p.first) (values_total falling)) (on_total (λ p. get_or rows p.position []) (compare_on_total order))

-- a place of a row: its number is that row's, and the value there has this type
record IsPlace (order : List OrderEntry) (rows : List Row) (type : ColType) (place : SortPlace) : Type 0 where
  pub number : place.first ≡ first_number order (get_or rows place.position [])
  pub typed : first_type order (get_or rows place.position []) ≡ type

keeps : (order : List OrderEntry) (rows : List Row) (type : ColType) (x y : SortPlace) → IsPlace order rows type x → IsPlace order rows type y
    → compare_places (first_falls order) order rows x y ≡ compare_at order rows x.position y.position
keeps order rows type x y p q =
    let a = get_or rows x.position [] in
    let b = get_or rows y.position [] in
    let f = first_falls order in
    ap (λ z. ordering_then (compare_values f (num z) (num y.first)) (compare_on order a b)) p.number
    ∙ (ap (λ z. ordering_then (compare_values f (num (first_number order a)) (num z)) (compare_on order a b)) q.number ∙ same-order order a b (p.typed ∙ sym q.typed))

-- the positions of the places in order
pub places-order : (types : List ColType) (order : List OrderEntry) (rows : List Row) → AllByRecursion (Fits types) rows
    → map (λ p. p.position) (sort_by (compare_places (first_falls order) order rows) (each_below (length rows) (place_of order rows))) ≡ order_on order rows
places-order types order rows fit =
    let type = type_of_first types order in
    let places = each_below (length rows) (place_of order rows) in
    let all = each_below-all (IsPlace order rows type) (length rows) (place_of order rows)
    (λ k h. record { number = refl; typed = fit-type types order (get_or rows k []) (all_here (Fits types) rows fit k [] h) }) in
    sort_by-map (λ p. p.position) (compare_places (first_falls order) order rows) (compare_at order rows) (IsPlace order rows type) (keeps order rows type) places all
    ∙ ap (sort_by (compare_at order rows)) (map-each_below (λ p. p.position) (length rows) (place_of order rows))

-- the rows in order
pub rows-order : (order : List OrderEntry) (rows : List Row) → map (λ i. get_or rows i []) (order_on order rows) ≡ sort_on order rows
rows-order order rows =
    let positions = each_below (length rows) (λ i. i) in
    let all = each_below-all (λ i. i < length rows) (length rows) (λ i. i) (λ k h. h) in
    sort_by-map (λ i. get_or rows i []) (compare_at order rows) (compare_on order) (λ i. i < length rows) (λ x y p q. refl) positions all
    ∙ (ap (sort_by (compare_on order)) (map-each_below (λ i. get_or rows i []) (length rows) (λ i. i) ∙ each_below-is rows []) ∙ sort_by-is order rows)

-- each of the positions in order is that of a row
pub order-there : (order : List OrderEntry) (rows : List Row) → ArePositions (length rows) (order_on order rows)
order-there order rows =
    all_at (λ i. i < length rows) (order_on order rows)
    (sort_by-all (compare_at order rows) (λ i. i < length rows) (each_below (length rows) (λ i. i)) (each_below-all (λ i. i < length rows) (length rows) (λ i. i) (λ k h. h)))

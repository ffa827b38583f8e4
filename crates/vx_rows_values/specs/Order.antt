-- The order of rows on some columns, each rising or falling, and lists of rows that are sorted so.
use Rattle.std.specs.Prelude.{ℕ, ◌==◌, Bool, true, false, cond, not, ◌&&◌, List, [], ◌∷◌, map}
use Rattle.std.specs.List.{list_all}
use Rattle.std.specs.declared.cmp.Ordering.{Ordering}
use Rattle.std.specs.declared.cmp.Ordering.TheVariants.{Equal}
use Rattle.std.specs.Ordering.{is_le, ordering_then}
use Rattle.vx_rows_values.specs.declared.order.OrderEntry.{OrderEntry}
use Rattle.vx_rows_values.specs.Values.{Val, Row, val_cmp, row_eq, value_at, pick}

-- ---- orders

-- these columns, all of them rising
abbrev pub rising : List ℕ → List OrderEntry
rising cols = map (λ c. record { column = c; falling = false }) cols

-- the columns of an order
abbrev pub order_columns : List OrderEntry → List ℕ
order_columns order = map (λ e. e.column) order

-- these columns in these directions
abbrev pub in_directions : List ℕ → (falls : List Bool) → List OrderEntry
in_directions (c ∷ cols) (f ∷ falls) = record { column = c; falling = f } ∷ in_directions cols falls
in_directions _ _ = []

-- the same column in the same direction
abbrev pub entry_eq : OrderEntry → OrderEntry → Bool
entry_eq a b = (a.column == b.column) && cond a.falling b.falling (not b.falling)

-- ---- rows

-- values of a column that rises, or falls: then the greater value comes first
abbrev pub compare_values : (falling : Bool) → Val → Val → Ordering
compare_values false x y = val_cmp x y
compare_values true x y = val_cmp y x

-- entry by entry, the first difference decides
abbrev pub compare_on : List OrderEntry → Row → Row → Ordering
compare_on [] a b = Equal
compare_on (e ∷ order) a b = ordering_then (compare_values e.falling (value_at a e.column) (value_at b e.column)) (compare_on order a b)

-- equal values in these columns
abbrev pub agree : List ℕ → Row → Row → Bool
agree cols a b = row_eq (pick cols a) (pick cols b)

-- no row is smaller than an earlier one, wherever in the list the two stand
abbrev pub sorted : List OrderEntry → List Row → Bool
sorted order [] = true
sorted order (x ∷ xs) = list_all (λ y. is_le (compare_on order x y)) xs && sorted order xs

-- the stable sort: a row goes before the first that is not smaller
abbrev pub insert_sorted : List OrderEntry → Row → List Row → List Row
insert_sorted order x [] = x ∷ []
insert_sorted order x (y ∷ ys) = cond (is_le (compare_on order x y)) (x ∷ y ∷ ys) (y ∷ insert_sorted order x ys)

-- the list in this order; rows that are equal on its columns stay as they stood
abbrev pub sort_on : List OrderEntry → List Row → List Row
sort_on order [] = []
sort_on order (x ∷ xs) = insert_sorted order x (sort_on order xs)

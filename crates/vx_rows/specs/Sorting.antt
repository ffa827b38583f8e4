-- The stable sort of anything by a comparison, and of the positions of rows.
use Rattle.std.specs.Prelude.{ℕ, ℤ, pos, cond, Bool, false, List, [], ◌∷◌, length, slice_index_or}
use Rattle.std.specs.declared.cmp.Ordering.{Ordering}
use Rattle.std.specs.Ordering.{is_le, ordering_then}
use Rattle.vx_rows.specs.declared.sorting.SortPlace.{SortPlace}
use Rattle.vx_rows_values.specs.declared.order.OrderEntry.{OrderEntry}
use Rattle.vx_rows_values.specs.Values.{Val, num, text, Row, value_at}
use Rattle.vx_rows_values.specs.Order.{compare_values, compare_on}
use Rattle.vx_rows.specs.Lists.{each_below}

-- an element goes before the first that is not smaller
abbrev pub insert_by : {X : Type 0} → (X → X → Ordering) → X → List X → List X
insert_by compare x [] = x ∷ []
insert_by compare x (y ∷ ys) = cond (is_le (compare x y)) (x ∷ y ∷ ys) (y ∷ insert_by compare x ys)

-- in this order; elements that are equal in it stay as they stood
abbrev pub sort_by : {X : Type 0} → (X → X → Ordering) → List X → List X
sort_by compare [] = []
sort_by compare (x ∷ xs) = insert_by compare x (sort_by compare xs)

-- the positions of rows, in the order of the stable sort
abbrev pub order_on : List OrderEntry → List Row → List ℕ
order_on order rows = sort_by (λ i j. compare_on order (slice_index_or rows i []) (slice_index_or rows j [])) (each_below (length rows) (λ i. i))

-- a number, or 0 of a text
abbrev pub number_of : Val → ℤ
number_of (num z) = z
number_of (text t) = pos 0

-- the number in the first column of an order, and whether that falls
abbrev pub first_number : List OrderEntry → Row → ℤ
first_number [] row = pos 0
first_number (e ∷ order) row = number_of (value_at row e.column)

abbrev pub first_falls : List OrderEntry → Bool
first_falls [] = false
first_falls (e ∷ order) = e.falling

-- the place of row i: its position, and the first number that decides where it goes
abbrev pub place_of : List OrderEntry → List Row → ℕ → SortPlace
place_of order rows i = record { first = first_number order (slice_index_or rows i []); position = i }

-- places go by their numbers, which rise or fall, and then by the rows at their positions
abbrev pub compare_places : (falling : Bool) → List OrderEntry → List Row → SortPlace → SortPlace → Ordering
compare_places falling order rows a b =
    ordering_then (compare_values falling (num a.first) (num b.first)) (compare_on order (slice_index_or rows a.position []) (slice_index_or rows b.position []))

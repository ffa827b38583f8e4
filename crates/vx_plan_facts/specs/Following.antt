-- What follows from facts of columns. A part is one on equal columns too, and an order may leave out what earlier columns determine. A key is one by what it
-- determines, and an order is total if it determines a key or all columns.
use Rattle.std.specs.Prelude.{ℕ, ◌==◌, Bool, true, false, cond, not, ◌&&◌, ◌||◌, List, [], ◌∷◌}
use Rattle.std.specs.List.{list_all, list_any}
use Rattle.vx_rows_values.specs.declared.order.OrderEntry.{OrderEntry}
use Rattle.vx_plan_nodes.specs.Phases.{first_columns}
use Rattle.vx_plan_facts.specs.Equal.{Equality}
use Rattle.vx_plan_facts.specs.Determined.{Columns}

-- the columns of a list, as a set
abbrev pub set_of : List ℕ → Columns
set_of cols c = list_any (λ d. c == d) cols

-- equally long, and equal one by one
abbrev pub equal_lists : Equality → List ℕ → List ℕ → Bool
equal_lists e [] [] = true
equal_lists e (c ∷ cs) (d ∷ ds) = e c d && equal_lists e cs ds
equal_lists e _ _ = false

-- equal columns in the same direction
abbrev pub equal_entries : Equality → OrderEntry → OrderEntry → Bool
equal_entries e a b = e a.column b.column && cond a.falling b.falling (not b.falling)

-- the first order begins the second, up to equal columns
abbrev pub begins_equally : Equality → List OrderEntry → List OrderEntry → Bool
begins_equally e [] ds = true
begins_equally e (c ∷ cs) [] = false
begins_equally e (c ∷ cs) (d ∷ ds) = equal_entries e c d && begins_equally e cs ds

-- the entries of an order whose columns those of the entries before them do not determine; `before` are the columns passed already
abbrev pub short_after : (Columns → Columns) → (before : List ℕ) → List OrderEntry → List OrderEntry
short_after det before [] = []
short_after det before (c ∷ order) = cond (det (set_of before) c.column) (short_after det (c.column ∷ before) order) (c ∷ short_after det (c.column ∷ before) order)

abbrev pub short : (Columns → Columns) → List OrderEntry → List OrderEntry
short det order = short_after det [] order

-- rows in the one order are in the other one
abbrev pub order_follows : Equality → (Columns → Columns) → (given order : List OrderEntry) → Bool
order_follows e det given order = begins_equally e (short det order) (short det given)

-- these columns determine all of one of these keys
abbrev pub key_follows : (Columns → Columns) → (keys : List (List ℕ)) → List ℕ → Bool
key_follows det keys cols = list_any (list_all (det (set_of cols))) keys

-- an order on these of w columns is total: they determine all of a key, or all columns
abbrev pub total_follows : ℕ → (Columns → Columns) → (keys : List (List ℕ)) → List ℕ → Bool
total_follows w det keys cols = key_follows det keys cols || list_all (det (set_of cols)) (first_columns w)

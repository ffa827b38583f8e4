-- Rows by key: the aggregates of each key's rows, and how they change when one more row comes.
use Rattle.std.specs.Prelude.{◌≡◌, ℕ, ℤ, pos, ◌+◌, ◌+ℤ◌, Bool, true, List, [], Option, None, map, length, slice_index_or}
use Rattle.std.specs.List.{AllByRecursion}
use Rattle.vx_rows_values.specs.declared.value.ColType.{ColType}
use Rattle.vx_rows_values.specs.Values.{Val, num, text, Row, value_at}
use Rattle.vx_rows_values.specs.Types.{Fits, fits_64}
use Rattle.vx_plan_nodes.specs.Plan.{Aggregate, least, greatest, sum, count_rows}
use Rattle.vx_match_grouping.specs.declared.fault.GroupFault.{GroupFault}
use Rattle.vx_plan_nodes.specs.Serial.{smaller, larger, aggregate_of, of_key, group_keys}

-- a value as a number, a text as 0
abbrev pub number_of : Val → ℤ
number_of (num z) = z
number_of (text t) = pos 0

-- an aggregate, its value so far, and how many rows it counted
pub record Held : Type 0 where
  pub aggregate : Aggregate
  pub value : Val
  pub taken : ℕ

-- how many of so many rows an aggregate counts: a least and a greatest value count none
abbrev pub counted : Aggregate → ℕ → ℕ
counted (least c) n = 0
counted (greatest c) n = 0
counted (sum c) n = n
counted count_rows n = n

-- an aggregate of rows
abbrev pub held_of : Aggregate → List Row → Held
held_of a xs = record { aggregate = a; value = aggregate_of a xs; taken = counted a (length xs) }

abbrev pub all_held : List Aggregate → List Row → List Held
all_held aggregates xs = map (λ a. held_of a xs) aggregates

-- a value with one more row
abbrev pub next_value : Aggregate → Val → Row → Val
next_value (least c) v row = smaller v (value_at row c)
next_value (greatest c) v row = larger v (value_at row c)
next_value (sum c) v row = num (number_of v +ℤ number_of (value_at row c))
next_value count_rows v row = num (number_of v +ℤ pos 1)

-- the same with one more row
abbrev pub advance : Row → Held → Held
advance row h = record { aggregate = h.aggregate; value = next_value h.aggregate h.value row; taken = h.taken + counted h.aggregate 1 }

-- whether a sum and a count are 64 signed bits; the others are values of the rows
abbrev pub value_fits : Aggregate → Val → Bool
value_fits (least c) v = true
value_fits (greatest c) v = true
value_fits (sum c) v = fits_64 (number_of v)
value_fits count_rows v = fits_64 (number_of v)

abbrev pub held_fits : Held → Bool
held_fits h = value_fits h.aggregate h.value

-- the aggregates of a key's rows
abbrev pub part_of : List ℕ → List Aggregate → List Row → Row → List Held
part_of by aggregates xs key = all_held aggregates (of_key by key xs)

-- an aggregate of the rows of each key
abbrev pub column_of : List ℕ → List Row → Aggregate → List Held
column_of by xs a = map (λ k. held_of a (of_key by k xs)) (group_keys by xs)

-- what stands past the end
abbrev pub no_held : Held
no_held = held_of count_rows []

-- the aggregates of the group with this number
abbrev pub held_at : ℕ → List (List Held) → List Held
held_at number columns = map (λ column. slice_index_or column number no_held) columns

-- what a grouping shows: the types of its rows' columns, the columns of the key and the aggregates, each key in order of
-- first occurrence, and for each aggregate what it is of the rows of each key; and the fault with which it failed, if it did
pub record Groups : Type 0 where
  pub types : List ColType
  pub by : List ℕ
  pub aggregates : List Aggregate
  pub keys : List Row
  pub columns : List (List Held)
  pub failed : Option GroupFault

-- these rows were added, and no others, and it has not failed
pub record HasTaken (g : Groups) (xs : List Row) : Type 0 where
  pub runs : g.failed ≡ None
  pub keys_are : g.keys ≡ group_keys g.by xs
  pub columns_are : g.columns ≡ map (column_of g.by xs) g.aggregates
  pub fit : AllByRecursion (Fits g.types) xs

-- some rows were added, and no others
pub record HasTakenSome (g : Groups) : Type 0 where
  pub rows : List Row
  pub taken : HasTaken g rows

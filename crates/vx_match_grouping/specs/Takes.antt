-- What an aggregate of all groups takes of a chunk.
use Rattle.std.specs.Prelude.{◌≡◌, ℕ, ◌++◌, ◌∷◌, [], List, map}
use Rattle.vx_rows_values.specs.Values.{Val, Row, pick}
use Rattle.vx_match_keys.specs.Numbers.{numbers_of}
use Rattle.vx_plan_nodes.specs.Plan.{Aggregate}
use Rattle.vx_plan_nodes.specs.Serial.{group_keys}
use Rattle.vx_match_grouping.specs.declared.fault.GroupFault.{GroupFault}
use Rattle.vx_match_grouping.specs.Groups.{Held, advance, column_of}
use Rattle.vx_match_grouping.specs.GroupFaults.{TakeBlame}

-- what an entry shows, of which these are the value and the number of rows that it counted
abbrev pub entry_held : {E : Type 0} → Aggregate → (E → Val) → (E → ℕ) → E → Held
entry_held a value taken e = record { aggregate = a; value = value e; taken = taken e }

-- the same with more rows, one by one
abbrev pub advance_all : List Row → Held → Held
advance_all [] h = h
advance_all (y ∷ rows) h = advance_all rows (advance y h)

-- the aggregate of each group, that was the first, is the second when these rows came too, whose keys have these numbers
abbrev pub Takes : Aggregate → List Row → List ℕ → List Held → List Held → Type 0
Takes a rows numbers old new =
    (by : List ℕ) (xs : List Row) → numbers ≡ numbers_of (group_keys by xs) (map (pick by) rows) → old ≡ column_of by xs a → new ≡ column_of by (xs ++ rows) a

-- why it does not take them
abbrev pub TakesNot : GroupFault → Aggregate → List Row → List ℕ → List Held → Type 0
TakesNot e a rows numbers old =
    (by : List ℕ) (xs : List Row) → numbers ≡ numbers_of (group_keys by xs) (map (pick by) rows) → old ≡ column_of by xs a → TakeBlame e (xs ++ rows)

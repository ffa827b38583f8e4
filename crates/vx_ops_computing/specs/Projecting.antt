-- A projection of the rows of a chunk, column by column, and conditions of a selection, one by one.
use Rattle.std.specs.Prelude.{◌≡◌, ℕ, ◌<◌, ◌≤◌, true, List, [], map, length, slice_index_or}
use Rattle.vx_rows_values.specs.declared.value.ColType.{ColType}
use Rattle.vx_rows_values.specs.Types.{type_at}
use Rattle.vx_rows_values.specs.Values.{Row, value_at, pick}
use Rattle.vx_rows.specs.View.{RowsView, AreColumns}
use Rattle.vx_plan_nodes.specs.Plan.{Filter, comparing, computing, Entry, copy_of, made_by}
use Rattle.vx_plan_nodes.specs.Serial.{entries_row, entries_fit}
use Rattle.vx_plan_nodes.specs.Types.{entry_type}
use Rattle.vx_ops_computing.specs.Answers.{IsUnanswered}

-- the columns so far, those that are to be taken, and what they are
pub record IsProjecting (types : List ColType) (xs : List Row) (es : List Entry) (wide : RowsView) (columns : List ℕ) : Type 0 where
  pub near : AreColumns (length wide.types) columns
  pub kinds : map (type_at wide.types) columns ≡ map (entry_type types) es
  pub long : length wide.rows ≡ length xs
  pub wider : length types ≤ length wide.types
  pub width : (k : ℕ) → k < length xs → length (slice_index_or wide.rows k []) ≡ length wide.types
  pub front_types : (c : ℕ) → c < length types → type_at wide.types c ≡ type_at types c
  pub front : (k : ℕ) → k < length xs → (c : ℕ) → c < length types → value_at (slice_index_or wide.rows k []) c ≡ value_at (slice_index_or xs k []) c
  pub values : (k : ℕ) → k < length xs → pick columns (slice_index_or wide.rows k []) ≡ entries_row es (slice_index_or xs k [])
  pub fits : (k : ℕ) → k < length xs → entries_fit es (slice_index_or xs k []) ≡ true

-- what an entry, or a condition, says overflows for some row
abbrev pub EntryFails : Entry → List Row → Type 0
EntryFails (copy_of c) xs = ⊥
EntryFails (made_by e) xs = IsUnanswered e xs

abbrev pub FilterFails : Filter → List Row → Type 0
FilterFails (comparing c) xs = ⊥
FilterFails (computing e) xs = IsUnanswered e xs

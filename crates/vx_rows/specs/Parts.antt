-- Tables that are put one behind the other.
use Rattle.std.specs.Prelude.{◌≡◌, ℕ, ◌+◌, ◌<◌, ◌≤◌, List, [], length, flat_map, slice_index_or, All}
use Rattle.vx_rows_values.specs.declared.value.ColType.{ColType}
use Rattle.vx_rows_values.specs.Values.{Row, value_at}
use Rattle.vx_rows.specs.declared.column.Column.{Column}
use Rattle.vx_rows.specs.Columns.{size, entry}
use Rattle.vx_rows.specs.View.{RowsView}

-- the rows of all these tables, those of the first before those of the second, and so on
abbrev pub rows_of_all : List RowsView → List Row
rows_of_all parts = flat_map (λ t. t.rows) parts

-- each of these tables has these types
abbrev pub HaveTypes : List ColType → List RowsView → Type 0
HaveTypes types parts = All (λ t. t.types ≡ types) parts

-- from `at` on a column has what the rows of these tables have in column j
pub record HasParts (at j : ℕ) (parts : List RowsView) (column : Column) : Type 0 where
  pub long : at + length (rows_of_all parts) ≤ size column
  pub values : (k : ℕ) → k < length (rows_of_all parts) → entry column (at + k) ≡ value_at (slice_index_or (rows_of_all parts) k []) j

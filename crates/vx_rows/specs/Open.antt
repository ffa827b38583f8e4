-- Rows, and the first values of one more row, which is being filled.
use Rattle.std.specs.Prelude.{◌≡◌, ℕ, ◌+◌, ◌≤◌, true, List, length, take}
use Rattle.std.specs.List.{list_all}
use Rattle.vx_rows_values.specs.declared.value.ColType.{ColType}
use Rattle.vx_rows.specs.declared.column.Column.{Column}
use Rattle.vx_rows_values.specs.Types.{is_held}
use Rattle.vx_rows_values.specs.Values.{Row}
use Rattle.vx_rows.specs.Columns.{row_of, LongTo, AreRows}

-- what a caller sees: the types, the whole rows, and the values of the next row so far
pub record Opened : Type 0 where
  pub types : List ColType
  pub rows : List Row
  pub front : Row

-- the values of row i in the first m columns
abbrev pub front_of : ℕ → ℕ → List Column → Row
front_of m i columns = take m (row_of columns i)

-- the columns of rows, of which the first `filled` have a value more
pub record AreOpen (types : List ColType) (count filled : ℕ) (columns : List Column) : Type 0 where
  pub rows : AreRows types count columns
  pub room : filled ≤ length columns
  pub long : LongTo (count + 1) filled columns
  pub held : list_all is_held (front_of filled count columns) ≡ true

-- A column's values by their numbers. A column may have more values than there are rows: those past the last row are never seen.
use Rattle.std.specs.Prelude.{◌≡◌, ℕ, ◌+◌, ◌++◌, take, ◌<◌, ◌≤◌, pos, true, List, [], map, length, slice_index, slice_index_or}
use Rattle.vx_rows_values.specs.declared.value.ColType.{ColType}
use Rattle.vx_rows_values.specs.declared.value.ColType.TheVariants as kind
use Rattle.vx_rows.specs.declared.column.Column.{Column}
use Rattle.vx_rows.specs.declared.column.Column.TheVariants as column
use Rattle.std.specs.List.{list_all}
use Rattle.vx_rows_values.specs.Types.{is_held}
use Rattle.vx_rows_values.specs.Values.{Val, num, text, Row}
use Rattle.vx_rows.specs.Lists.{each_below}

-- the type of its values
abbrev pub column_type : Column → ColType
column_type (column.Int v) = kind.Int
column_type (column.Text t) = kind.Text

-- how many it has
abbrev pub size : Column → ℕ
size (column.Int v) = length v
size (column.Text t) = length t

-- value k; past the end the number 0 or the empty text
abbrev pub entry : Column → ℕ → Val
entry (column.Int v) k = num (slice_index_or v k (pos 0))
entry (column.Text t) k = text (slice_index_or t k [])

-- row i of these columns
abbrev pub row_of : List Column → ℕ → Row
row_of columns i = map (λ c. entry c i) columns

-- the first n rows
abbrev pub rows_of : ℕ → List Column → List Row
rows_of n columns = each_below n (row_of columns)

-- each of the first m has n values or more
abbrev pub LongTo : ℕ → ℕ → List Column → Type 0
LongTo n m columns = (k : ℕ) → k < m → n ≤ slice_index (map size columns) k

-- each has n values or more
abbrev pub AreLong : ℕ → List Column → Type 0
AreLong n columns = LongTo n (length columns) columns

-- one column after a write at `at`: what lies before it stays
pub record KeepsFront (at : ℕ) (old new : Column) : Type 0 where
  pub kind : column_type new ≡ column_type old
  pub long : at ≤ size new
  pub kept : (k : ℕ) → k < at → entry new k ≡ entry old k

-- the same of all columns
pub record KeepRows (at : ℕ) (old new : List Column) : Type 0 where
  pub kinds : map column_type new ≡ map column_type old
  pub long : AreLong at old → AreLong at new
  pub kept : (k : ℕ) → k < at → row_of new k ≡ row_of old k

-- m rows from `at` on got the values of f in the columns from `first` up to `last`
pub record Fills (at m first last : ℕ) (old new : List Column) (f : ℕ → List Val) : Type 0 where
  pub long : LongTo (at + m) first old → LongTo (at + m) last new
  pub values : (k : ℕ) → k < m → take last (row_of new (at + k)) ≡ take first (row_of old (at + k)) ++ f k

-- the first n rows have numbers of 64 bits and texts in UTF-8
abbrev pub AreHeld : ℕ → List Column → Type 0
AreHeld n columns = (k : ℕ) → k < n → list_all is_held (row_of columns k) ≡ true

-- the columns of rows
pub record AreRows (types : List ColType) (count : ℕ) (columns : List Column) : Type 0 where
  pub kinds : map column_type columns ≡ types
  pub long : AreLong count columns
  pub held : AreHeld count columns

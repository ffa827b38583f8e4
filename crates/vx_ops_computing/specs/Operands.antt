-- The values of an operand of a function for the rows of a chunk.
use Rattle.std.specs.Prelude.{◌≡◌, ℕ, ◌<◌, pos, List, [], ◌∷◌, map, length, slice_index_or}
use Rattle.std.specs.List.{AllByRecursion}
use Rattle.vx_rows_values.specs.declared.value.ColType.{ColType}
use Rattle.vx_rows_values.specs.declared.value.ColType.TheVariants.{Int, Text}
use Rattle.vx_rows_values.specs.Types.{type_of, type_at, Fits}
use Rattle.vx_rows_values.specs.Values.{Val, num, value_at}
use Rattle.vx_rows_values.specs.ValueView.{cell_val}
use Rattle.vx_rows.specs.View.{RowsView, row}
use Rattle.vx_ops_computing.specs.declared.operands.Operand.{Operand}
use Rattle.vx_ops_computing.specs.declared.operands.Operand.TheVariants as operand

-- the value for row k
abbrev pub operand_at : Operand → ℕ → Val
operand_at (operand.Same c) k = cell_val c
operand_at (operand.Lying chunk column) k = value_at (row chunk.now k) column
operand_at (operand.Numbers v) k = num (slice_index_or v.items k (pos 0))
operand_at (operand.Texts t) k = value_at (row t k) 0

-- the type of its values
abbrev pub operand_type : Operand → ColType
operand_type (operand.Same c) = type_of (cell_val c)
operand_type (operand.Lying chunk column) = type_at chunk.now.types column
operand_type (operand.Numbers v) = Int
operand_type (operand.Texts t) = Text

-- it has a value for row k
abbrev pub IsThere : ℕ → Operand → Type 0
IsThere k (operand.Same c) = Unit {0}
IsThere k (operand.Lying chunk column) = (k < length chunk.now.rows) × (column < length chunk.now.types)
IsThere k (operand.Numbers v) = k < length v.items
IsThere k (operand.Texts t) = (k < length t.rows) × (0 < length t.types)

-- a column of rows, as many as these
pub record IsColumnOf (n : ℕ) (t : RowsView) (column : ℕ) : Type 0 where
  pub long : length t.rows ≡ n
  pub near : column < length t.types
  pub fit : AllByRecursion (Fits t.types) t.rows

-- it has a value for each of so many rows, all of one type
abbrev pub IsFor : ℕ → Operand → Type 0
IsFor n (operand.Same c) = Unit {0}
IsFor n (operand.Lying chunk column) = IsColumnOf n chunk.now column
IsFor n (operand.Numbers v) = length v.items ≡ n
IsFor n (operand.Texts t) = (t.types ≡ Text ∷ []) × IsColumnOf n t 0

-- the values of several operands for row k
abbrev pub values_at : List Operand → ℕ → List Val
values_at operands k = map (λ o. operand_at o k) operands

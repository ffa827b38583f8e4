-- What a function answers of operands, row by row.
use Rattle.std.specs.Prelude.{◌≡◌, ℕ, ◌<◌, ℤ, pos, List, [], ◌∷◌, length, Option, Some, None, slice_index_or}
use Rattle.vx_rows_values.specs.declared.value.ColType.{ColType}
use Rattle.vx_rows_values.specs.Types.{type_of}
use Rattle.vx_rows_values.specs.declared.value.ColType.TheVariants.{Text}
use Rattle.vx_rows_values.specs.Values.{Val, num, value_at}
use Rattle.vx_rows.specs.View.{RowsView, row}
use Rattle.vx_ops_computing.specs.declared.operands.Operand.{Operand}
use Rattle.vx_ops_computing.specs.Operands.{values_at}

-- for each of so many rows it answers, if at all, a value of this type
abbrev pub AnswersOf : (List Val → Option Val) → List Operand → ℕ → ColType → Type 0
AnswersOf says operands n type = (k : ℕ) (v : Val) → k < n → says (values_at operands k) ≡ Some v → type_of v ≡ type

-- the numbers that it answers, one for each row
pub record AreNumbersOf (says : List Val → Option Val) (operands : List Operand) (n : ℕ) (numbers : List ℤ) : Type 0 where
  pub long : length numbers ≡ n
  pub values : (k : ℕ) → k < n → says (values_at operands k) ≡ Some (num (slice_index_or numbers k (pos 0)))

-- the texts that it answers, as rows of one column
pub record AreTextsOf (says : List Val → Option Val) (operands : List Operand) (n : ℕ) (t : RowsView) : Type 0 where
  pub types : t.types ≡ Text ∷ []
  pub long : length t.rows ≡ n
  pub values : (k : ℕ) → k < n → says (values_at operands k) ≡ Some (value_at (row t k) 0)

-- a function of two numbers that overflows for some row, where these are the numbers of row k
pub record PairOverflows (says : ℤ → ℤ → Option ℤ) (left right : ℕ → ℤ) (n : ℕ) : Type 0 where
  pub at : ℕ
  pub there : at < n
  pub none : says (left at) (right at) ≡ None

-- what it answers for each row
pub record ArePaired (says : ℤ → ℤ → Option ℤ) (left right : ℕ → ℤ) (n : ℕ) (numbers : List ℤ) : Type 0 where
  pub long : length numbers ≡ n
  pub values : (k : ℕ) → k < n → says (left k) (right k) ≡ Some (slice_index_or numbers k (pos 0))

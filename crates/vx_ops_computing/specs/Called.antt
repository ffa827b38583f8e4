-- What a function that a plan names answers of operands, row by row.
use Rattle.std.specs.Prelude.{◌≡◌, ℕ, ◌<◌, List, Option, Some, None}
use Rattle.vx_rows_values.specs.declared.value.ColType.{ColType}
use Rattle.vx_rows_values.specs.Values.{Val}
use Rattle.vx_ops_computing.specs.declared.operands.Operand.{Operand}
use Rattle.vx_ops_computing.specs.Operands.{operand_at, operand_type, IsFor, values_at}

-- the values of some operand are what it answers
pub record IsCalled (says : List Val → Option Val) (operands : List Operand) (n : ℕ) (type : ColType) (o : Operand) : Type 0 where
  pub whole : IsFor n o
  pub kind : operand_type o ≡ type
  pub values : (k : ℕ) → k < n → says (values_at operands k) ≡ Some (operand_at o k)

-- for some row it overflows
pub record CallOverflows (says : List Val → Option Val) (operands : List Operand) (n : ℕ) : Type 0 where
  pub at : ℕ
  pub there : at < n
  pub none : says (values_at operands at) ≡ None

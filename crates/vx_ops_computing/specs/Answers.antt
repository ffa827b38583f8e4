-- What expressions answer of the rows of a chunk.
use Rattle.std.specs.Prelude.{◌≡◌, ℕ, ◌<◌, true, List, [], ◌∷◌, ◌++◌, length, Some, None, slice_index_or}
use Rattle.vx_rows_values.specs.declared.value.ColType.{ColType}
use Rattle.vx_rows_values.specs.Values.{Row}
use Rattle.vx_plan_nodes.specs.Plan.{Expression}
use Rattle.vx_plan_nodes.specs.Expressions.{answer, is_answered, answered}
use Rattle.vx_plan_nodes.specs.Types.{expression_type}
use Rattle.vx_ops_computing.specs.declared.operands.Operand.{Operand}
use Rattle.vx_ops_computing.specs.Operands.{operand_at, operand_type, IsFor}

-- the operand has what the expression answers of each row, and there is an answer of each
pub record IsAnswered (types : List ColType) (e : Expression) (xs : List Row) (o : Operand) : Type 0 where
  pub whole : IsFor (length xs) o
  pub kind : operand_type o ≡ expression_type types e
  pub values : (k : ℕ) → k < length xs → answer e (slice_index_or xs k []) ≡ Some (operand_at o k)

-- of some row there is none
pub record IsUnanswered (e : Expression) (xs : List Row) : Type 0 where
  pub at : ℕ
  pub there : at < length xs
  pub none : answer e (slice_index_or xs at []) ≡ None

-- each row has the expression's answer of the row of the chunk as a further value
pub record IsWidened (e : Expression) (xs before after : List Row) : Type 0 where
  pub fits : (k : ℕ) → k < length xs → is_answered (answer e (slice_index_or xs k [])) ≡ true
  pub long : length after ≡ length before
  pub each : (k : ℕ) → k < length xs → slice_index_or after k [] ≡ slice_index_or before k [] ++ answered (answer e (slice_index_or xs k [])) ∷ []

-- The numbers that an expression answers of the first rows of a chunk.
use Rattle.std.specs.Prelude.{◌≡◌, ℕ, ◌<◌, ℤ, pos, List, [], length, Some, slice_index_or}
use Rattle.vx_rows_values.specs.Values.{Row, num}
use Rattle.vx_plan_nodes.specs.Plan.{Expression}
use Rattle.vx_plan_nodes.specs.Expressions.{answer}

-- these numbers are what it answers of the first n rows
pub record AreAnswers (e : Expression) (xs : List Row) (n : ℕ) (numbers : List ℤ) : Type 0 where
  pub long : length numbers ≡ n
  pub values : (k : ℕ) → k < n → answer e (slice_index_or xs k []) ≡ Some (num (slice_index_or numbers k (pos 0)))

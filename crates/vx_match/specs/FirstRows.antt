-- What a caller sees of the kernel of a distinct, and what it has returned.
use Rattle.std.specs.Prelude.{◌≡◌, ℕ, List, map}
use Rattle.vx_rows_values.specs.declared.value.ColType.{ColType}
use Rattle.vx_rows_values.specs.Values.{Row, pick}
use Rattle.vx_rows_values.specs.Types.{type_at}
use Rattle.vx_plan_nodes.specs.Plan.{Unary, distinct}
use Rattle.vx_plan_nodes.specs.Serial.{firsts}
use Rattle.vx_ops.specs.Turn.{Shape}

-- the columns that it keeps, the types of its input, and the rows of these columns that it has seen, each once
pub record FirstRowsView : Type 0 where
  pub columns : List ℕ
  pub types : List ColType
  pub seen : List Row

abbrev pub first_rows : FirstRowsView → Unary
first_rows s = distinct s.columns

abbrev pub first_rows_types : FirstRowsView → Shape
first_rows_types s = record { left = s.types; right = s.types; out = map (type_at s.types) s.columns }

-- it returned what it has seen: the first occurrence of each row
abbrev pub HasReturned : FirstRowsView → List Row → List Row → Type 0
HasReturned s xs ys = (s.seen ≡ ys) × (s.seen ≡ firsts (map (pick s.columns) xs))

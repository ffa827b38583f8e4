-- Whether one condition holds of a row.
use Rattle.std.specs.Prelude.{Bool}
use Rattle.vx_rows_values.specs.Values.{Row, val_cmp, value_at}
use Rattle.vx_plan_nodes.specs.Plan.{Condition as PlanCondition}
use Rattle.vx_plan_nodes.specs.Serial.{side, answers}
use Rattle.vx_plan_nodes.specs.Outline.{condition_of}
use Rattle.vx_plan_nodes.specs.declared.typed.Condition.{Condition}

abbrev pub holds : PlanCondition → Row → Bool
holds c row = answers c.test (val_cmp (value_at row c.left) (side c.right row))

-- the same of a condition of the program
abbrev pub holds_of : Condition → Row → Bool
holds_of c row = holds (condition_of c) row

-- The conditions that a list of conditions of the program stands for.
use Rattle.std.specs.Prelude.{List, map}
use Rattle.vx_plan_nodes.specs.Plan.{Condition as PlanCondition}
use Rattle.vx_plan_nodes.specs.Outline.{condition_of}
use Rattle.vx_plan_nodes.specs.declared.typed.Condition.{Condition}

abbrev pub conditions_of : List Condition → List PlanCondition
conditions_of cs = map condition_of cs

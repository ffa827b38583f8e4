-- What the kernel of a projection makes, under the functions that are given to it.
use Rattle.std.specs.Prelude.{◌≡◌, List, map, Some}
use Rattle.vx_rows_values.specs.Values.{Row}
use Rattle.vx_plan_nodes.specs.Outline.{entry_of}
use Rattle.vx_plan_nodes.specs.Plan.{Unary, project}
use Rattle.vx_plan_nodes.specs.Serial.{unary_rows}
use Rattle.vx_plan_nodes.specs.Types.{unary_types}
use Rattle.vx_plan_nodes.specs.Under.{unary_under}
use Rattle.vx_ops.specs.Turn.{Shape}
use Rattle.vx_plan_nodes.specs.declared.functions.PlanFunctions.{Ghosts}
use Rattle.vx_ops.specs.declared.project.Projection.{Projection}

abbrev pub projection : {F : Type 0} (given : Ghosts F) → Projection F given → Unary
projection given s = unary_under (given.functions s.functions) (project (map entry_of s.entries.items))

abbrev pub projection_types : {F : Type 0} (given : Ghosts F) → Projection F given → Shape
projection_types given s = record { left = s.types.items; right = s.types.items; out = unary_types (project (map entry_of s.entries.items)) s.types.items }

-- its columns of each row, where no function overflows
abbrev pub HasProjected : {F : Type 0} (given : Ghosts F) → Projection F given → List Row → List Row → Type 0
HasProjected given s xs ys = unary_rows (projection given s) xs ≡ Some ys

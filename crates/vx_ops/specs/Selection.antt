-- What the kernel of a selection makes, under the functions that are given to it.
use Rattle.std.specs.Prelude.{◌≡◌, List, map, Some}
use Rattle.vx_rows_values.specs.Values.{Row}
use Rattle.vx_plan_nodes.specs.Outline.{filter_of}
use Rattle.vx_plan_nodes.specs.Plan.{Unary, select}
use Rattle.vx_plan_nodes.specs.Serial.{unary_rows}
use Rattle.vx_plan_nodes.specs.Under.{unary_under}
use Rattle.vx_ops.specs.Turn.{Shape}
use Rattle.vx_plan_nodes.specs.declared.functions.PlanFunctions.{Ghosts}
use Rattle.vx_ops.specs.declared.select.Selection.{Selection}

abbrev pub selection : {F : Type 0} (given : Ghosts F) → Selection F given → Unary
selection given s = unary_under (given.functions s.functions) (select (map filter_of s.filters.items))

abbrev pub selection_types : {F : Type 0} (given : Ghosts F) → Selection F given → Shape
selection_types given s = record { left = s.types.items; right = s.types.items; out = s.types.items }

-- the rows that pass, where no condition overflows
abbrev pub HasSelected : {F : Type 0} (given : Ghosts F) → Selection F given → List Row → List Row → Type 0
HasSelected given s xs ys = unary_rows (selection given s) xs ≡ Some ys

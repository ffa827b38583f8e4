-- When a selection may have received and returned what a ledger says.
use Rattle.vx_ops.specs.Ledger.{Ledger, Op}
use Rattle.vx_ops.specs.Turn.{Shape}
use Rattle.vx_ops.specs.Meaning.{Meaning}
use Rattle.vx_ops.specs.Selection.{selection, selection_types, HasSelected}
use Rattle.vx_ops.specs.Stepping.{stepping_op, stepping_types, SteppingStands, stepping_meaning}
use Rattle.vx_plan_nodes.specs.declared.functions.PlanFunctions.{Ghosts}
use Rattle.vx_ops.specs.declared.select.Selection.{Selection}
use Rattle.vx_ops.specs.declared.stepping.Stepping.{Stepping}

abbrev pub Select : (F : Type 0) → Ghosts F → Type 0
Select F given = Stepping (Selection F given)

abbrev pub select_op : {F : Type 0} (given : Ghosts F) → Select F given → Op
select_op given s = stepping_op (selection given) s

abbrev pub select_types : {F : Type 0} (given : Ghosts F) → Select F given → Shape
select_types given s = stepping_types (selection_types given) s

abbrev pub SelectStands : {F : Type 0} (given : Ghosts F) → Select F given → Ledger → Type 0
SelectStands given s l = SteppingStands (selection given) (HasSelected given) s l

abbrev pub select_meaning : {F : Type 0} (given : Ghosts F) → Select F given → Meaning
select_meaning given s = stepping_meaning (selection given) (selection_types given) (HasSelected given) s

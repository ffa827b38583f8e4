-- When a projection may have received and returned what a ledger says.
use Rattle.vx_ops.specs.Ledger.{Ledger, Op}
use Rattle.vx_ops.specs.Turn.{Shape}
use Rattle.vx_ops.specs.Meaning.{Meaning}
use Rattle.vx_ops.specs.Stepping.{stepping_op, stepping_types, SteppingStands, stepping_meaning}
use Rattle.vx_ops.specs.Projection.{projection, projection_types, HasProjected}
use Rattle.vx_plan_nodes.specs.declared.functions.PlanFunctions.{Ghosts}
use Rattle.vx_ops.specs.declared.project.Projection.{Projection}
use Rattle.vx_ops.specs.declared.stepping.Stepping.{Stepping}

abbrev pub Project : (F : Type 0) → Ghosts F → Type 0
Project F given = Stepping (Projection F given)

abbrev pub project_op : {F : Type 0} (given : Ghosts F) → Project F given → Op
project_op given s = stepping_op (projection given) s

abbrev pub project_types : {F : Type 0} (given : Ghosts F) → Project F given → Shape
project_types given s = stepping_types (projection_types given) s

abbrev pub ProjectStands : {F : Type 0} (given : Ghosts F) → Project F given → Ledger → Type 0
ProjectStands given s l = SteppingStands (projection given) (HasProjected given) s l

abbrev pub project_meaning : {F : Type 0} (given : Ghosts F) → Project F given → Meaning
project_meaning given s = stepping_meaning (projection given) (projection_types given) (HasProjected given) s

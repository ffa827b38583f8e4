-- Why a kernel that returns rows for each batch returns none.
use Rattle.std.specs.Prelude.{◌≡◌, List, ◌++◌, None}
use Rattle.vx_rows_values.specs.Values.{Row}
use Rattle.vx_plan_nodes.specs.Plan.{Unary, select, project}
use Rattle.vx_plan_nodes.specs.Serial.{unary_rows}
use Rattle.vx_ops.specs.declared.step_kernel.StepFault.{StepFault}
use Rattle.vx_ops.specs.declared.step_kernel.StepFault.TheVariants.{Overflow, NoMemory}

-- a function of a select or of a project overflows for one of these rows
abbrev pub StepOverflows : Unary → List Row → Type 0
StepOverflows (select fs) xs = unary_rows (select fs) xs ≡ None
StepOverflows (project es) xs = unary_rows (project es) xs ≡ None
StepOverflows op xs = ⊥

-- why a kernel returns nothing behind these rows: they overflow, whatever follows them
abbrev pub StepBlame : Unary → List Row → StepFault → Type 0
StepBlame op xs Overflow = (rest : List Row) → StepOverflows op (xs ++ rest)
StepBlame op xs NoMemory = Unit {0}

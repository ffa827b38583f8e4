-- Why a kernel that reads all of its input first makes nothing of it.
use Rattle.std.specs.Prelude.{◌≡◌, ◌<◌, ◌⊎◌, List, length, None}
use Rattle.vx_rows_values.specs.Values.{Row}
use Rattle.vx_plan_nodes.specs.Plan.{Unary, group}
use Rattle.vx_plan_nodes.specs.Serial.{group_rows}
use Rattle.vx_ops.specs.declared.collecting_kernel.FinishFault.{FinishFault}
use Rattle.vx_ops.specs.declared.collecting_kernel.FinishFault.TheVariants.{Overflow, NoMemory}

-- a sum or a count of these rows does not fit 64 bits, or they are too many
abbrev pub MayOverflow : Unary → List Row → Type 0
MayOverflow (group phase by aggregates) xs = (group_rows by aggregates xs ≡ None) ⊎ (4611686018427387904 < length xs)
MayOverflow op xs = ⊥

-- why a kernel makes nothing of all these rows
abbrev pub FinishBlame : Unary → List Row → FinishFault → Type 0
FinishBlame op xs Overflow = MayOverflow op xs
FinishBlame op xs NoMemory = Unit {0}

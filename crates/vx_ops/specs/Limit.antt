-- What the kernel of a limit makes, and when a limit may have received and returned what a ledger says.
use Rattle.std.specs.Prelude.{◌≡◌, ◌-◌, List, length, take}
use Rattle.vx_rows_values.specs.Values.{Row}
use Rattle.vx_plan_nodes.specs.Plan.{Unary, limit}
use Rattle.vx_ops.specs.Ledger.{Ledger, Op}
use Rattle.vx_ops.specs.Turn.{Shape}
use Rattle.vx_ops.specs.Meaning.{Meaning}
use Rattle.vx_ops.specs.Stepping.{stepping_op, stepping_types, SteppingStands, stepping_meaning}
use Rattle.vx_ops.specs.declared.stepping.Stepping.{Stepping}
use Rattle.vx_ops.specs.declared.limit.Limiting.{Limiting}

abbrev pub limiting : Limiting → Unary
limiting s = limit s.rows

abbrev pub limiting_types : Limiting → Shape
limiting_types s = record { left = s.types.items; right = s.types.items; out = s.types.items }

-- the first of the rows, and so many are still missing
pub record HasLimited (s : Limiting) (xs ys : List Row) : Type 0 where
  pub rows : ys ≡ take s.rows xs
  pub missing : s.missing ≡ s.rows - length xs

abbrev pub Limit : Type 0
Limit = Stepping Limiting

abbrev pub limit_op : Limit → Op
limit_op s = stepping_op limiting s

abbrev pub limit_types : Limit → Shape
limit_types s = stepping_types limiting_types s

abbrev pub LimitStands : Limit → Ledger → Type 0
LimitStands s l = SteppingStands limiting HasLimited s l

abbrev pub limit_meaning : Limit → Meaning
limit_meaning s = stepping_meaning limiting limiting_types HasLimited s

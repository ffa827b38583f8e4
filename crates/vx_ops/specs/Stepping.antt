-- When an operator that answers each batch as it comes may have received and returned what a ledger says.
use Rattle.std.specs.Prelude.{ℕ, ◌≡◌, Bool, true, false, List, ◌++◌, Some}
use Rattle.std.proofs.Common.{le_refl}
use Rattle.vx_rows_values.specs.Values.{Row}
use Rattle.vx_plan_nodes.specs.Plan.{Unary}
use Rattle.vx_plan_nodes.specs.Serial.{unary_rows}
use Rattle.vx_ops.specs.Ledger.{Ledger, Op, one_op, Abides}
use Rattle.vx_ops.specs.Turn.{Shape, while_running}
use Rattle.vx_ops.specs.StepKernel.{StepOverflows}
use Rattle.vx_ops.specs.Meaning.{Meaning}
use Rattle.vx_ops.specs.declared.turn.Want.TheVariants as want
use Rattle.vx_ops.specs.declared.fault.StreamState.{StreamState}
use Rattle.vx_ops.specs.declared.fault.StreamState.TheVariants.{Running}
use Rattle.vx_ops.specs.declared.stepping.Stepping.{Stepping}

-- while it runs: either its kernel made the rows that were returned of those that came, and they are what the operator makes of them; or those that came
-- overflow, whatever else comes, and what comes is let go
abbrev pub StepPhase : Unary → (List Row → List Row → Type 0) → (overflowed : Bool) → Ledger → Type 0
StepPhase op made false l = made l.left.rows l.gave.rows × (unary_rows op l.left.rows ≡ Some l.gave.rows)
StepPhase op made true l = (rest : List Row) → StepOverflows op (l.left.rows ++ rest)

-- it stands so; while it runs so does its input, and its phase; and what is known of any source
pub record IsStepped (n : ℕ) (op : Unary) (made : List Row → List Row → Type 0) (overflowed : Bool) (over : StreamState) (l : Ledger) : Type 0 where
  pub stands : l.gave.over ≡ over
  pub runs : over ≡ Running → l.left.over ≡ Running
  pub phase : over ≡ Running → StepPhase op made overflowed l
  pub abides : Abides (one_op n op) l

abbrev pub stepping_op : {K : Type 0} → (K → Unary) → Stepping K → Op
stepping_op unary s = one_op s.node (unary s.kernel)

abbrev pub stepping_types : {K : Type 0} → (K → Shape) → Stepping K → Shape
stepping_types types s = types s.kernel

abbrev pub SteppingStands : {K : Type 0} → (K → Unary) → (K → List Row → List Row → Type 0) → Stepping K → Ledger → Type 0
SteppingStands unary made s l = IsStepped s.node (unary s.kernel) (made s.kernel) s.overflowed s.over l

pub stepping_abides : {K : Type 0} (unary : K → Unary) (made : K → List Row → List Row → Type 0) (s : Stepping K) (l : Ledger)
    → SteppingStands unary made s l → Abides (stepping_op unary s) l
stepping_abides unary made s l h = h.abides

-- of an operator whose kernel computes this, over rows of these types, and has made this
abbrev pub stepping_meaning : {K : Type 0} → (K → Unary) → (K → Shape) → (K → List Row → List Row → Type 0) → Stepping K → Meaning
stepping_meaning unary types made s = record {
  stands = SteppingStands unary made s;
  op = stepping_op unary s;
  types = stepping_types types s;
  want = while_running want.Left s.over;
  most = λ c. c.left;
  idle = λ c. 0;
  abides = stepping_abides unary made s;
  most_grows = λ a b h. h.left;
  idle_grows = λ a b h. le_refl 0;
}

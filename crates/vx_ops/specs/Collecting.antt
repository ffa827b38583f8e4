-- When an operator that reads all of its input first may have received and returned what a ledger says.
use Rattle.std.specs.Prelude.{ℕ, ◌≡◌, ◌≤◌, ◌+◌, Bool, true, false, List, [], Some}
use Rattle.std.proofs.Common.{le_refl, add-le-add}
use Rattle.vx_rows_values.specs.Values.{Row}
use Rattle.vx_plan_nodes.specs.Plan.{Unary}
use Rattle.vx_plan_nodes.specs.Serial.{unary_rows}
use Rattle.vx_ops.specs.Ledger.{Ledger, Op, one_op, Abides}
use Rattle.vx_ops.specs.Turn.{Shape, while_running, Coming, IsWithin, if_running}
use Rattle.vx_ops.specs.Growing.{running-grows}
use Rattle.vx_ops.specs.Meaning.{Meaning}
use Rattle.vx_ops.specs.declared.fault.StreamState.{StreamState}
use Rattle.vx_ops.specs.declared.fault.StreamState.TheVariants.{Running, Ended}
use Rattle.vx_ops.specs.declared.turn.Want.{Want}
use Rattle.vx_ops.specs.declared.turn.Want.TheVariants as want
use Rattle.vx_ops.specs.declared.collecting.Collecting.{Collecting}

-- while it runs: either it still reads and has returned nothing, or its input has ended and it has returned all
abbrev pub Phase : Unary → (List Row → Type 0) → Bool → Ledger → Type 0
Phase op read false l = (l.left.over ≡ Running) × read l.left.rows × (l.gave.rows ≡ [])
Phase op read true l = (l.left.over ≡ Ended) × (unary_rows op l.left.rows ≡ Some l.gave.rows)

-- it stands so; its phase while it runs; and what is known of any source
pub record IsCollected (n : ℕ) (op : Unary) (read : List Row → Type 0) (finished : Bool) (over : StreamState) (l : Ledger) : Type 0 where
  pub stands : l.gave.over ≡ over
  pub runs : over ≡ Running → Phase op read finished l
  pub abides : Abides (one_op n op) l

abbrev pub collecting_op : {K : Type 0} → (K → Unary) → Collecting K → Op
collecting_op unary s = one_op s.node (unary s.kernel)

abbrev pub collecting_types : {K : Type 0} → (K → Shape) → Collecting K → Shape
collecting_types types s = types s.kernel

-- it wants its input until that has ended
abbrev pub collecting_want : Bool → StreamState → Want
collecting_want true over = want.Nothing
collecting_want false over = while_running want.Left over

abbrev pub CollectingStands : {K : Type 0} → (K → Unary) → (K → List Row → Type 0) → Collecting K → Ledger → Type 0
CollectingStands unary read s l = IsCollected s.node (unary s.kernel) (read s.kernel) s.finished s.over l

pub collecting_abides : {K : Type 0} (unary : K → Unary) (read : K → List Row → Type 0) (s : Collecting K) (l : Ledger)
    → CollectingStands unary read s l → Abides (collecting_op unary s) l
collecting_abides unary read s l h = h.abides

-- the most rows that it may still return: those of what it has read and of what may still come, and none once it has returned all
abbrev pub most_collected : (finished : Bool) → (held : ℕ) → Coming → ℕ
most_collected true held c = 0
most_collected false held c = held + c.left

abbrev pub collecting_most : {K : Type 0} → (K → ℕ) → Collecting K → Coming → ℕ
collecting_most held s c = if_running s.over (most_collected s.finished (held s.kernel) c)

collected-grows : (finished : Bool) (held : ℕ) (a b : Coming) → IsWithin a b → most_collected finished held a ≤ most_collected finished held b
collected-grows true held a b h = le_refl 0
collected-grows false held a b h = add-le-add (le_refl held) h.left

pub collecting-grows : {K : Type 0} (held : K → ℕ) (s : Collecting K) (a b : Coming) → IsWithin a b → collecting_most held s a ≤ collecting_most held s b
collecting-grows held s a b h =
    running-grows s.over (most_collected s.finished (held s.kernel) a) (most_collected s.finished (held s.kernel) b) (collected-grows s.finished (held s.kernel) a b h)

-- of an operator whose kernel computes this, over rows of these types, and has read this, and so many rows at most are made of it
abbrev pub collecting_meaning : {K : Type 0} → (K → Unary) → (K → Shape) → (K → List Row → Type 0) → (K → ℕ) → Collecting K → Meaning
collecting_meaning unary types read held s = record {
  stands = CollectingStands unary read s;
  op = collecting_op unary s;
  types = collecting_types types s;
  want = collecting_want s.finished s.over;
  most = collecting_most held s;
  idle = λ c. 0;
  abides = collecting_abides unary read s;
  most_grows = collecting-grows held s;
  idle_grows = λ a b h. le_refl 0;
}

-- When an operator that builds a table of its right input before it reads its left one may have received and returned what a ledger says.
use Rattle.std.specs.Prelude.{ℕ, ◌≡◌, ◌<◌, ◌≤◌, ◌+◌, ◌*◌, Bool, true, false, List, [], length, Option, Some, None}
use Rattle.std.proofs.Common.{le_refl, add-le-add, mul-le-mul}
use Rattle.vx_rows_values.specs.declared.value.ColType.{ColType}
use Rattle.vx_rows_values.specs.Values.{Row}
use Rattle.vx_rows.specs.View.{RowsView}
use Rattle.vx_plan_nodes.specs.Plan.{Binary}
use Rattle.vx_ops.specs.Ledger.{Ledger, Op, two_op, Abides}
use Rattle.vx_ops.specs.Turn.{Shape, while_running, Coming, IsWithin, if_running}
use Rattle.vx_ops.specs.Growing.{running-grows}
use Rattle.vx_ops.specs.Meaning.{Meaning}
use Rattle.vx_ops.specs.ProbeKernel.{IsProbed}
use Rattle.vx_ops.specs.declared.fault.StreamState.{StreamState}
use Rattle.vx_ops.specs.declared.fault.StreamState.TheVariants.{Running, Ended}
use Rattle.vx_ops.specs.declared.turn.Want.{Want}
use Rattle.vx_ops.specs.declared.turn.Want.TheVariants as want

-- what a caller sees of it: whether its build side is ready, the rest of a batch of its left input that it holds, and how it stands
pub record ProbingView (K : Type 0) : Type 0 where
  pub node : ℕ
  pub kernel : K
  pub ready : Bool
  pub rest : Option RowsView
  pub over : StreamState

-- the rows that it holds
abbrev pub rest_rows : Option RowsView → List Row
rest_rows None = []
rest_rows (Some rest) = rest.rows

-- they have these types
abbrev pub RestTyped : List ColType → Option RowsView → Type 0
RestTyped types None = Unit {0}
RestTyped types (Some rest) = rest.types ≡ types

-- it holds no batch without rows
abbrev pub HoldsSome : Option RowsView → Type 0
HoldsSome None = Unit {0}
HoldsSome (Some rest) = 0 < length rest.rows

-- while it runs: either it reads its right input and nothing else came or was returned;
-- or that has ended, and it has returned the join of all left rows but those that it holds
abbrev pub ProbingPhase : Binary → (List Row → Type 0) → (List Row → Type 0) → Bool → Option RowsView → Ledger → Type 0
ProbingPhase op read built false None l =
    (l.right.over ≡ Running) × read l.right.rows × (l.left.rows ≡ []) × (l.gave.rows ≡ [])
ProbingPhase op read built false (Some rest) l = ⊥
ProbingPhase op read built true rest l =
    (l.right.over ≡ Ended) × built l.right.rows × IsProbed op l.right.rows l.left.rows l.gave.rows (rest_rows rest)

-- it stands so; its phase while it runs, and its left input runs too; and what is known of any source
pub record IsProbing (n : ℕ) (op : Binary) (read built : List Row → Type 0) (ready : Bool) (rest : Option RowsView) (over : StreamState) (l : Ledger) : Type 0 where
  pub stands : l.gave.over ≡ over
  pub left : over ≡ Running → l.left.over ≡ Running
  pub runs : over ≡ Running → ProbingPhase op read built ready rest l
  pub abides : Abides (two_op n op) l

abbrev pub probing_op : {K : Type 0} → (K → Binary) → ProbingView K → Op
probing_op binary s = two_op s.node (binary s.kernel)

abbrev pub probing_types : {K : Type 0} → (K → Shape) → ProbingView K → Shape
probing_types types s = types s.kernel

-- what it wants while it runs: its right input until that has ended, and then its left one, but nothing while it holds rows
abbrev pub reads_next : Bool → Option RowsView → Want
reads_next ready (Some rest) = want.Nothing
reads_next false None = want.Right
reads_next true None = want.Left

abbrev pub probing_want : {K : Type 0} → ProbingView K → Want
probing_want s = while_running (reads_next s.ready s.rest) s.over

abbrev pub ProbingStands : {K : Type 0} → (K → Binary) → (K → List Row → Type 0) → (K → List Row → Type 0) → ProbingView K → Ledger → Type 0
ProbingStands binary read built s l = IsProbing s.node (binary s.kernel) (read s.kernel) (built s.kernel) s.ready s.rest s.over l

pub probing_abides : {K : Type 0} (binary : K → Binary) (read built : K → List Row → Type 0) (s : ProbingView K) (l : Ledger)
    → ProbingStands binary read built s l → Abides (probing_op binary s) l
probing_abides binary read built s l h = h.abides

-- the most rows that it may still return: of each left row that it holds, or that may still come, what its kernel makes of one at most
abbrev pub rest_count : {K : Type 0} → ProbingView K → ℕ
rest_count s = length (rest_rows s.rest)

abbrev pub probing_most : {K : Type 0} → (K → ℕ → ℕ) → ProbingView K → Coming → ℕ
probing_most each s c = if_running s.over ((rest_count s + c.left) * each s.kernel c.right)

-- it may be idle where its right input ends, and for each left row: one at least is joined in a turn of its own
abbrev pub until_ready : Bool → ℕ
until_ready false = 1
until_ready true = 0

abbrev pub probing_idle : {K : Type 0} → ProbingView K → Coming → ℕ
probing_idle s c = if_running s.over (rest_count s + c.left + until_ready s.ready)

-- more right rows that may come make of a left row no fewer rows
abbrev pub EachGrows : (ℕ → ℕ) → Type 0
EachGrows each = (m n : ℕ) → m ≤ n → each m ≤ each n

pub probing-grows : {K : Type 0} (each : K → ℕ → ℕ) (s : ProbingView K) → EachGrows (each s.kernel) → (a b : Coming) → IsWithin a b → probing_most each s a ≤ probing_most each s b
probing-grows each s grows a b h =
    running-grows s.over ((rest_count s + a.left) * each s.kernel a.right) ((rest_count s + b.left) * each s.kernel b.right)
    (mul-le-mul (add-le-add (le_refl (rest_count s)) h.left) (grows a.right b.right h.right))

pub probing-idle-grows : {K : Type 0} (s : ProbingView K) (a b : Coming) → IsWithin a b → probing_idle s a ≤ probing_idle s b
probing-idle-grows s a b h =
    running-grows s.over (rest_count s + a.left + until_ready s.ready) (rest_count s + b.left + until_ready s.ready) (add-le-add (add-le-add (le_refl (rest_count s)) h.left) (le_refl (until_ready s.ready)))

-- of an operator whose kernel computes this, over rows of these types, and has read and built this, and makes so many rows at most of a left
-- row
abbrev pub probing_meaning : {K : Type 0} → (K → Binary) → (K → Shape) → (K → List Row → Type 0) → (K → List Row → Type 0) → (each : K → ℕ → ℕ) → ((s : K) → EachGrows (each s)) → ProbingView K → Meaning
probing_meaning binary types read built each grows s = record {
  stands = ProbingStands binary read built s;
  op = probing_op binary s;
  types = probing_types types s;
  want = probing_want s;
  most = probing_most each s;
  idle = probing_idle s;
  abides = probing_abides binary read built s;
  most_grows = probing-grows each s (grows s.kernel);
  idle_grows = probing-idle-grows s;
}

-- When a union may have received and returned what a ledger says.
use Rattle.std.specs.Prelude.{ℕ, ◌≡◌, ◌≤◌, ◌+◌, ◌++◌, Bool, true, false, []}
use Rattle.std.proofs.Common.{le_refl, add-le-add}
use Rattle.vx_plan_nodes.specs.Plan.{union}
use Rattle.vx_ops.specs.Ledger.{Ledger, Op, two_op, Abides}
use Rattle.vx_ops.specs.Turn.{Shape, while_running, Coming, IsWithin}
use Rattle.vx_ops.specs.Meaning.{Meaning}
use Rattle.vx_ops.specs.declared.turn.Want.{Want}
use Rattle.vx_ops.specs.declared.turn.Want.TheVariants as want
use Rattle.vx_ops.specs.declared.fault.StreamState.{StreamState}
use Rattle.vx_ops.specs.declared.fault.StreamState.TheVariants.{Running, Ended}
use Rattle.vx_ops.specs.declared.union.Union.{Union}

-- which input it reads: the left one, while nothing came from the right one; and once the left one has ended, the right one
abbrev pub Reads : Bool → Ledger → Type 0
Reads false l = (l.left.over ≡ Running) × (l.right.over ≡ Running) × (l.right.rows ≡ [])
Reads true l = (l.left.over ≡ Ended) × (l.right.over ≡ Running)

-- it stands so; which input it reads while it runs; it returned all that came; and what is known of any source
pub record IsUnited (n : ℕ) (left_ended : Bool) (over : StreamState) (l : Ledger) : Type 0 where
  pub stands : l.gave.over ≡ over
  pub runs : over ≡ Running → Reads left_ended l
  pub rows : l.left.rows ++ l.right.rows ≡ l.gave.rows
  pub abides : Abides (two_op n union) l

abbrev pub UnionStands : Union → Ledger → Type 0
UnionStands s l = IsUnited s.node s.left_ended s.over l

abbrev pub union_op : Union → Op
union_op s = two_op s.node union

abbrev pub union_types : Union → Shape
union_types s = record { left = s.types.items; right = s.types.items; out = s.types.items }

-- the input that it wants while it runs
abbrev pub input_wanted : Bool → Want
input_wanted false = want.Left
input_wanted true = want.Right

abbrev pub union_want : Union → Want
union_want s = while_running (input_wanted s.left_ended) s.over

-- a row for each row of both inputs
abbrev pub union_most : Coming → ℕ
union_most c = c.left + c.right

pub union-grows : (a b : Coming) → IsWithin a b → union_most a ≤ union_most b
union-grows a b h = add-le-add h.left h.right

-- it is idle once: where its left input ends
abbrev pub union_idle : (left_ended : Bool) → ℕ
union_idle false = 1
union_idle true = 0

pub union_abides : (s : Union) (l : Ledger) → UnionStands s l → Abides (union_op s) l
union_abides s l h = h.abides

abbrev pub union_meaning : Union → Meaning
union_meaning s = record {
  stands = UnionStands s;
  op = union_op s;
  types = union_types s;
  want = union_want s;
  most = union_most;
  idle = λ c. union_idle s.left_ended;
  abides = union_abides s;
  most_grows = union-grows;
  idle_grows = λ a b h. le_refl (union_idle s.left_ended);
}

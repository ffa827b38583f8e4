-- When a merge join may have received and returned what a ledger says.
use Rattle.std.specs.Prelude.{◌≡◌, ◌≤◌, ℕ, ◌+◌, ◌*◌, Bool, true, false, List, ◌++◌, length}
use Rattle.std.proofs.Common.{le_refl, add-le-add, mul-le-mul}
use Rattle.vx_plan_nodes.specs.Plan.{join, by_merging, left_order, right_order}
use Rattle.vx_match_merging.specs.Merged.{MergeView, HasJoined, merge_need}
use Rattle.vx_match_merging.specs.AtHand.{lefts_at_hand, rows_at_hand}
use Rattle.vx_match_merging.specs.declared.merging.MergeFault.{MergeFault}
use Rattle.vx_match_merging.specs.declared.merging.MergeFault.TheVariants as stops
use Rattle.vx_match_merging.specs.declared.merging.MergeNeed.{MergeNeed}
use Rattle.vx_match_merging.specs.declared.merging.MergeNeed.TheVariants as need
use Rattle.vx_ops.specs.Ledger.{Ledger, Op, two_op, Abides}
use Rattle.vx_ops.specs.Turn.{Shape, Coming, IsWithin, if_running}
use Rattle.vx_ops.specs.Growing.{running-grows}
use Rattle.vx_ops.specs.Meaning.{Meaning}
use Rattle.vx_ops.specs.declared.fault.Code.TheVariants.{Unsorted, NoMemory}
use Rattle.vx_ops.specs.declared.fault.Fault.{Fault}
use Rattle.vx_ops.specs.declared.fault.Fault.TheVariants.{Own}
use Rattle.vx_ops.specs.declared.fault.StreamState.{StreamState}
use Rattle.vx_ops.specs.declared.fault.StreamState.TheVariants.{Running, Ended, Failed}
use Rattle.vx_ops.specs.declared.turn.Want.{Want}
use Rattle.vx_ops.specs.declared.turn.Want.TheVariants as want
use Rattle.vx_match.specs.declared.merge_join.MergeJoin.{MergeJoin}

-- how an input stands that has not failed
abbrev pub over_of : Bool → StreamState
over_of true = Ended
over_of false = Running

-- the kernel joins on these pairs of columns, each rising or falling, and it has received and returned what the ledger says
pub record Merges (falls : List Bool) (on : List (ℕ × ℕ)) (k : MergeView) (l : Ledger) : Type 0 where
  pub left_over : l.left.over ≡ over_of k.left_ended
  pub right_over : l.right.over ≡ over_of k.right_ended
  pub directed : length falls ≡ length on
  pub lefts_are : k.lefts ≡ left_order falls on
  pub rights_are : k.rights ≡ right_order falls on
  pub joined : HasJoined k l.left.rows l.right.rows l.gave.rows

-- it stands so; while it runs so does its kernel; and what is known of any source
pub record IsMergeJoined (n : ℕ) (falls : List Bool) (on : List (ℕ × ℕ)) (k : MergeView) (over : StreamState) (l : Ledger) : Type 0 where
  pub stands : l.gave.over ≡ over
  pub runs : over ≡ Running → Merges falls on k l
  pub abides : Abides (two_op n (join (by_merging falls) on)) l

abbrev pub merge_join_op : MergeJoin → Op
merge_join_op s = two_op s.node (join (by_merging s.falls.items) s.on.items)

abbrev pub merge_join_types : MergeJoin → Shape
merge_join_types s = record { left = s.kernel.left.types; right = s.kernel.right.types; out = s.kernel.left.types ++ s.kernel.right.types }

-- it wants what its kernel needs
abbrev pub want_of_need : MergeNeed → Want
want_of_need need.Nothing = want.Nothing
want_of_need need.Left = want.Left
want_of_need need.Right = want.Right
want_of_need need.End = want.Nothing

abbrev pub wanted : MergeNeed → StreamState → Want
wanted n Running = want_of_need n
wanted n Ended = want.Nothing
wanted n (Failed f) = want.Nothing

abbrev pub merge_join_want : MergeJoin → Want
merge_join_want s = wanted (merge_need s.kernel) s.over

-- the most rows that it may still return: each left row that is at hand, or that may still come, with each right row that it holds, or that
-- may still come
abbrev pub may_join : MergeView → Coming → ℕ
may_join k c = (lefts_at_hand k + c.left) * (length k.right.rows + c.right)

-- it may be idle for each row of both inputs that it goes through, and where each of them ends
abbrev pub until_ended : Bool → ℕ
until_ended false = 1
until_ended true = 0

abbrev pub may_idle : MergeView → Coming → ℕ
may_idle k c = rows_at_hand k + (c.left + c.right) + (until_ended k.left_ended + until_ended k.right_ended)

abbrev pub merge_join_most : MergeJoin → Coming → ℕ
merge_join_most s c = if_running s.over (may_join s.kernel c)

abbrev pub merge_join_idle : MergeJoin → Coming → ℕ
merge_join_idle s c = if_running s.over (may_idle s.kernel c)

pub merge_join-most-grows : (s : MergeJoin) (a b : Coming) → IsWithin a b → merge_join_most s a ≤ merge_join_most s b
merge_join-most-grows s a b h =
    running-grows s.over (may_join s.kernel a) (may_join s.kernel b) (mul-le-mul (add-le-add (le_refl (lefts_at_hand s.kernel)) h.left) (add-le-add (le_refl (length s.kernel.right.rows)) h.right))

pub merge_join-idle-grows : (s : MergeJoin) (a b : Coming) → IsWithin a b → merge_join_idle s a ≤ merge_join_idle s b
merge_join-idle-grows s a b h =
    running-grows s.over (may_idle s.kernel a) (may_idle s.kernel b)
    (add-le-add (add-le-add (le_refl (rows_at_hand s.kernel)) (add-le-add h.left h.right)) (le_refl (until_ended s.kernel.left_ended + until_ended s.kernel.right_ended)))

-- a turn is its own where it needs no input
abbrev pub own_where : MergeNeed → ℕ
own_where need.Nothing = 1
own_where need.End = 1
own_where need.Left = 0
own_where need.Right = 0

abbrev pub MergeJoinStands : MergeJoin → Ledger → Type 0
MergeJoinStands s l = IsMergeJoined s.node s.falls.items s.on.items s.kernel s.over l

pub merge_join_abides : (s : MergeJoin) (l : Ledger) → MergeJoinStands s l → Abides (merge_join_op s) l
merge_join_abides s l h = h.abides

abbrev pub merge_join_meaning : MergeJoin → Meaning
merge_join_meaning s = record {
  stands = MergeJoinStands s;
  op = merge_join_op s;
  types = merge_join_types s;
  want = merge_join_want s;
  most = merge_join_most s;
  idle = merge_join_idle s;
  abides = merge_join_abides s;
  most_grows = merge_join-most-grows s;
  idle_grows = merge_join-idle-grows s;
}

-- the fault of its own
abbrev pub fault_of : MergeFault → ℕ → Fault
fault_of stops.Falls n = Own Unsorted n
fault_of stops.NoMemory n = Own NoMemory n

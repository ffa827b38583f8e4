-- When a merging consumer end may have received and returned what a ledger says.
use Rattle.std.specs.Prelude.{◌≡◌, ◌≤◌, ◌+◌, ℕ, length, Option, Some, None, All, false}
use Rattle.std.proofs.Common.{le_refl, add-le-add}
use Rattle.vx_ports.specs.Packets.{rows_of, has_last, is_closed}
use Rattle.vx_ops.specs.Ledger.{Ledger, ConsumerEnd, Op, receive, IsFor, Abides}
use Rattle.vx_ops.specs.Turn.{Shape, while_running, Coming, IsWithin, sum_below, if_running}
use Rattle.vx_ops.specs.Growing.{sum-grows, running-grows}
use Rattle.vx_ops.specs.Meaning.{Meaning}
use Rattle.vx_ops.specs.declared.fault.StreamState.{StreamState}
use Rattle.vx_ops.specs.declared.fault.StreamState.TheVariants.{Running}
use Rattle.vx_ops.specs.declared.turn.Want.{Want}
use Rattle.vx_ops.specs.declared.turn.Want.TheVariants as want
use Rattle.vx_exchange_receivers.specs.Ends.{end_at, end_types}
use Rattle.vx_exchange_receivers.specs.Heads.{ended_at, all_left}
use Rattle.vx_exchange_receivers.specs.Merge.{MergeView, HasMerged}
use Rattle.vx_exchange_receivers.specs.declared.merge_receiver.MergeReceiver.{MergeReceiver}

-- while it runs: it has merged what came, all of that was for this end, and no closing packet came of a producer that is taken to run
pub record TakesMerging (port : ConsumerEnd) (m : MergeView) (l : Ledger) : Type 0 where
  pub merged : HasMerged m (λ p. has_last (l.came p)) (λ p. rows_of (l.came p)) l.gave.rows
  pub ours : (p : ℕ) → All (IsFor port p) (l.came p)
  pub are_open : (p : ℕ) → ended_at m.heads p ≡ false → is_closed (l.came p) ≡ false

-- it stands so; what is known while it runs, and of any source
pub record IsMerging (port : ConsumerEnd) (m : MergeView) (over : StreamState) (l : Ledger) : Type 0 where
  pub same : l.gave.over ≡ over
  pub runs : over ≡ Running → TakesMerging port m l
  pub abides : Abides (receive port) l

abbrev pub merge_end : MergeReceiver → ConsumerEnd
merge_end s = end_at s.port (length s.kernel.heads) s.kernel.merge false

abbrev pub MergeReceiverStands : MergeReceiver → Ledger → Type 0
MergeReceiverStands s l = IsMerging (merge_end s) s.kernel s.over l

abbrev pub merge_receiver_op : MergeReceiver → Op
merge_receiver_op s = receive (merge_end s)

abbrev pub merge_receiver_types : MergeReceiver → Shape
merge_receiver_types s = end_types s.port

-- a packet of the producer that lacks a row, and nothing where each has one
abbrev pub lacking_want : Option ℕ → Want
lacking_want (Some p) = want.Packet p
lacking_want None = want.Nothing

abbrev pub merge_receiver_want : MergeReceiver → Want
merge_receiver_want s = while_running (lacking_want s.kernel.missing) s.over

-- a row for each row that is at hand, and for each row of its producers' packets
abbrev pub may_merge : MergeView → Coming → ℕ
may_merge m c = all_left m.heads + sum_below (length m.heads) c.packets

abbrev pub merge_receiver_most : MergeReceiver → Coming → ℕ
merge_receiver_most s c = if_running s.over (may_merge s.kernel c)

pub merge_receiver-grows : (s : MergeReceiver) (a b : Coming) → IsWithin a b → merge_receiver_most s a ≤ merge_receiver_most s b
merge_receiver-grows s a b h =
    running-grows s.over (may_merge s.kernel a) (may_merge s.kernel b) (add-le-add (le_refl (all_left s.kernel.heads)) (sum-grows (length s.kernel.heads) a.packets b.packets h.packets))

pub merge_receiver_abides : (s : MergeReceiver) (l : Ledger) → MergeReceiverStands s l → Abides (merge_receiver_op s) l
merge_receiver_abides s l h = h.abides

abbrev pub merge_receiver_meaning : MergeReceiver → Meaning
merge_receiver_meaning s = record {
  stands = MergeReceiverStands s;
  op = merge_receiver_op s;
  types = merge_receiver_types s;
  want = merge_receiver_want s;
  most = merge_receiver_most s;
  idle = λ c. 0;
  abides = merge_receiver_abides s;
  most_grows = merge_receiver-grows s;
  idle_grows = λ a b h. le_refl 0;
}

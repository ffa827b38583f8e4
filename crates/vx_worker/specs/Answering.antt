-- What the answer of a step says of what happened in it.
use Rattle.std.specs.Prelude.{ℕ, ◌≡◌, ◌<◌, length, true, false, Some, None, IsSome}
use Rattle.std.specs.List.{slice_index_or}
use Rattle.vx_ports.specs.Packets.{PacketView}
use Rattle.vx_ops.specs.Ledger.{Stream, Ledger}
use Rattle.vx_ops.specs.Turn.{heard}
use Rattle.vx_ops.specs.declared.fault.Fault.{Fault}
use Rattle.vx_ops.specs.declared.turn.Want.{Want}
use Rattle.vx_ops.specs.declared.turn.Got.{Got}
use Rattle.vx_ops.specs.declared.turn.Polled.{Polled}
use Rattle.vx_ops.specs.declared.turn.Polled.TheVariants as polled
use Rattle.vx_worker.specs.Fragment.{Reads}
use Rattle.vx_worker.specs.Trace.{Event, idle, drew_one, took_one, put_one}
use Rattle.vx_worker.specs.Trees.{TreeStands}
use Rattle.vx_worker.specs.Wishes.{Numbered, tree_want, read}
use Rattle.vx_worker.specs.Intake.{has_met_end, source_of, BringsSome}
use Rattle.vx_worker.specs.Worker.{outcome_of}
use Rattle.vx_worker.specs.declared.tree.Tree.{Tree}
use Rattle.vx_worker.specs.declared.wish.Wish.{Wish}
use Rattle.vx_worker.specs.declared.wish.Wish.TheVariants as wish
use Rattle.vx_worker.specs.declared.intake.ExchangeInput.{ExchangeInput}
use Rattle.vx_worker.specs.declared.intake.Intake.{Intake}
use Rattle.vx_worker.specs.declared.intake.Drained.{Drained}
use Rattle.vx_worker.specs.declared.intake.Drained.TheVariants as drained
use Rattle.vx_worker.specs.declared.worker.Worker.{Worker}
use Rattle.vx_worker.specs.declared.worker.WorkerState.{WorkerState}
use Rattle.vx_worker.specs.declared.worker.WorkerState.TheVariants.{Running, Failing, Draining, Well, Failed}
use Rattle.vx_worker.specs.declared.worker.StepOutcome.{StepOutcome}
use Rattle.vx_worker.specs.declared.worker.StepOutcome.TheVariants as step_outcome

-- a morsel or the end of a scan was drawn, or a packet was taken or put
abbrev pub IsMove : Event → Type 0
IsMove idle = ⊥
IsMove (drew_one n d) = Unit {0}
IsMove (took_one x i None) = ⊥
IsMove (took_one x i (Some p)) = Unit {0}
IsMove (put_one j p) = Unit {0}

-- the producer at this place of an exchange is one from which it takes, and is not marked as closed
pub record IsOpenInput (k : Intake) (x i : ℕ) : Type 0 where
  pub place : ℕ
  pub within : place < length k.inputs.items
  pub source : (d : ExchangeInput) → source_of (slice_index_or k.inputs.items place d) ≡ (x, i)
  pub is_open : (d : ExchangeInput) → (slice_index_or k.inputs.items place d).is_closed ≡ false

-- what was found that takes and drops: a packet of an open producer, or none of one, or no memory, or each producer is closed
abbrev pub DrainFinds : (lacks : Type 0) → Intake → Drained → Event → Type 0
DrainFinds lacks k drained.Dropped (took_one x i (Some p)) = IsOpenInput k x i × BringsSome (Some p)
DrainFinds lacks k drained.Nothing (took_one x i None) = IsOpenInput k x i
DrainFinds lacks k drained.Nothing idle = lacks
DrainFinds lacks k drained.All idle = Unit {0}
DrainFinds lacks k r e = ⊥

-- the tree needs nothing from outside for its next turn: it wants nothing, or the end of the scan that was met before
abbrev pub NeedsNothing : Intake → Wish → Type 0
NeedsNothing k wish.Nothing = Unit {0}
NeedsNothing k (wish.Morsel n) = has_met_end k n ≡ true
NeedsNothing k (wish.Packet x i) = ⊥

-- it runs, or closes its ports
abbrev pub IsSending : WorkerState → Type 0
IsSending Running = Unit {0}
IsSending (Failing f) = Unit {0}
IsSending (Draining f) = ⊥
IsSending Well = ⊥
IsSending (Failed f) = ⊥

-- why a step only waits: no packet had come from the producer that the tree wants one of, or from an open one while packets are taken and dropped;
-- the port of the packet that it holds is full, while it runs or closes its ports; or memory was refused while packets are taken and dropped
pub data Waits {O S : Type 0} (want : O → Want) (refuses : ℕ → Type 0) (lacks : Type 0) (phase : WorkerState) (tree : Tree O) (intake : Intake) (new : Worker O S) (e : Event) : Type 0 where
  none_came : (x i : ℕ) → phase ≡ Running → tree_want want tree ≡ wish.Packet x i → e ≡ took_one x i None → Waits want refuses lacks phase tree intake new e
  none_drains : (f : Fault) (x i : ℕ) → phase ≡ Draining f → IsOpenInput intake x i → e ≡ took_one x i None → Waits want refuses lacks phase tree intake new e
  is_full : (to : ℕ) (packet : PacketView) → IsSending new.phase → new.pending ≡ Some (to, packet) → refuses to → e ≡ idle → Waits want refuses lacks phase tree intake new e
  no_memory : (f : Fault) → phase ≡ Draining f → lacks → e ≡ idle → Waits want refuses lacks phase tree intake new e

-- what a step did that moved: a draw, a take or a put; or the tree's top gave rows or its end; or the worker failed, or has closed all its ports;
-- or the tree took a turn for which it needs nothing from outside, where no packet is held
pub data Moves {O S : Type 0} (OS : O → Ledger → Type 0) (want : O → Want) (phase : WorkerState) (tree : Tree O) (intake : Intake) (new : Worker O S) (e : Event) : Type 0 where
  by_event : IsMove e → Moves OS want phase tree intake new e
  by_rows : (got : Got) (a : Polled) → (a ≡ polled.Waiting → ⊥)
      → ((low high : ℕ) (r : Reads) (out : Stream) → Numbered low high tree → TreeStands OS tree r out → TreeStands OS new.tree (read r (tree_want want tree) got) (heard out a))
      → Moves OS want phase tree intake new e
  by_fault : (f : Fault) → phase ≡ Running → new.phase ≡ Failing f → Moves OS want phase tree intake new e
  by_closing : (f : Fault) → phase ≡ Failing f → new.phase ≡ Draining f → Moves OS want phase tree intake new e
  by_turn : phase ≡ Running → new.pending ≡ None → new.is_over ≡ false → NeedsNothing intake (tree_want want tree) → Moves OS want phase tree intake new e

-- what an answer says of a step from a worker with this tree and intake in this phase, by one event, to the new worker
abbrev pub AnsweredIn : {O S : Type 0} → (OS : O → Ledger → Type 0) → (want : O → Want) → (refuses : ℕ → Type 0) → (lacks : Type 0)
    → WorkerState → Tree O → Intake → (new : Worker O S) → Event → StepOutcome → Type 0
AnsweredIn OS want refuses lacks phase tree intake new e step_outcome.Moved = Moves OS want phase tree intake new e
AnsweredIn OS want refuses lacks phase tree intake new e step_outcome.Waiting = Waits want refuses lacks phase tree intake new e
AnsweredIn OS want refuses lacks phase tree intake new e step_outcome.Ended = IsSome (outcome_of new)

-- what an answer says of a step. refuses: the ports that are full; lacks: memory may be refused
abbrev pub Answered : {O S : Type 0} → (OS : O → Ledger → Type 0) → (want : O → Want) → (refuses : ℕ → Type 0) → (lacks : Type 0)
    → (old new : Worker O S) → Event → StepOutcome → Type 0
Answered OS want refuses lacks old new e r = AnsweredIn OS want refuses lacks old.phase old.tree old.intake new e r

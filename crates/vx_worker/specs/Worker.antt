-- Workers: when one may have done what a trace says, what it needs before a step, and how it ended.
use Rattle.std.specs.Prelude.{ℕ, ◌≡◌, List, [], ◌∷◌, Bool, true, false, Option, Some, None}
use Rattle.std.specs.List.{All}
use Rattle.vx_rows_values.specs.Values.{Val, Row}
use Rattle.vx_rows.specs.Lists.{each_below}
use Rattle.vx_rows_values.specs.declared.value.ColType.{ColType}
use Rattle.vx_plan_nodes.specs.Routes.{Routing}
use Rattle.vx_ports.specs.Packets.{fault, PacketView, closes}
use Rattle.vx_ops.specs.Ledger.{Stream, Ledger, Op}
use Rattle.vx_ops.specs.Turn.{Shape, with_packet}
use Rattle.vx_ops.specs.declared.fault.StreamState.TheVariants as stream_state
use Rattle.vx_exchange_ends.specs.Ship.{packet_of}
use Rattle.vx_exchange_ends.specs.Tasks.{Task, Post, sends_by_ship, keeps, post_types}
use Rattle.vx_worker.specs.Fragment.{Frag, Reads}
use Rattle.vx_worker.specs.Trace.{Trace, ReadsAreOf, ReadsBeginOf, IsWellBy, HasFailedBy, HonestBy, Fate, well, failed}
use Rattle.vx_worker.specs.Trees.{shape, TreeStands}
use Rattle.vx_worker.specs.Wishes.{Numbered, TreeTyped, tree_types}
use Rattle.vx_worker.specs.Intake.{sources_of, has_met_end, IntakeStands, IsDrained}
use Rattle.vx_exec_setup.specs.declared.counts.StepCounts.{StepCounts}
use Rattle.vx_worker.specs.declared.tree.Tree.{Tree}
use Rattle.vx_worker.specs.declared.worker.Worker.{Worker}
use Rattle.vx_worker.specs.declared.worker.WorkerState.{WorkerState}
use Rattle.vx_worker.specs.declared.worker.WorkerState.TheVariants.{Running, Failing, Draining, Well, Failed}
use Rattle.vx_worker.specs.declared.worker.WorkerOutcome.{WorkerOutcome}
use Rattle.vx_worker.specs.declared.worker.WorkerOutcome.TheVariants as worker_outcome

-- the packets put, with one that is still with the worker
abbrev pub with_pending : (ℕ → List PacketView) → Option (ℕ × PacketView) → ℕ → List PacketView
with_pending put None = put
with_pending put (Some x) = with_packet put x.0 (Some x.1)

-- and with each packet of a list
abbrev pub with_all : (ℕ → List PacketView) → List PacketView → ℕ → List PacketView
with_all put [] = put
with_all put (p ∷ ps) = with_packet (with_all put ps) p.to (Some p)

-- Fault for each consumer: what a worker holds in order to close its ports
abbrev pub closing_of : Post → List PacketView
closing_of (sends_by_ship s) = each_below s.consumers (λ j. packet_of s j fault)
closing_of (keeps types) = []

-- how a worker in this phase ended, if it has
abbrev pub outcome_in : WorkerState → Option WorkerOutcome
outcome_in Running = None
outcome_in (Failing f) = None
outcome_in (Draining f) = None
outcome_in Well = Some worker_outcome.Well
outcome_in (Failed f) = Some (worker_outcome.Failed f)

-- how a worker ended, if it has
abbrev pub outcome_of : {O S : Type 0} → Worker O S → Option WorkerOutcome
outcome_of w = outcome_in w.phase

-- the same as a trace has it
abbrev pub fate_of : WorkerOutcome → Fate
fate_of worker_outcome.Well = well
fate_of (worker_outcome.Failed f) = failed f

-- it holds only packets that close
pub record IsClosing {O S : Type 0} (w : Worker O S) : Type 0 where
  pub closing : All (λ (p : PacketView). closes p.content ≡ true) w.closing.items
  pub pending : (x : ℕ × PacketView) → w.pending ≡ Some x → closes x.1.content ≡ true

-- its sending end
abbrev pub sender_of : {O S : Type 0} → Worker O S → S
sender_of w = w.sender

-- its operators
abbrev pub tree_of : {O S : Type 0} → Worker O S → Tree O
tree_of w = w.tree

-- what it counted of its steps
abbrev pub counts_of : {O S : Type 0} → Worker O S → StepCounts
counts_of w = w.counts

-- the producers from which it takes
abbrev pub inputs_of : {O S : Type 0} → Worker O S → List (ℕ × ℕ)
inputs_of w = sources_of w.intake

-- what a worker is to do, which stays: its fragment, where its rows go, and the producers from which it takes
pub record Role : Type 0 where
  pub frag : Frag
  pub post : Post
  pub bounds : List Val
  pub inputs : List (ℕ × ℕ)

abbrev pub role_of : {O S : Type 0} → (op : O → Op) → (post : S → Post) → (bounds : S → List Val) → Worker O S → Role
role_of op post bounds w = record { frag = shape op w.tree; post = post w.sender; bounds = bounds w.sender; inputs = sources_of w.intake }

-- what a worker needs before a step, by where it stands
module _ {O S : Type 0} (post : S → Post) (is_open has_closed : S → Bool) where
  -- while it runs: its sending end takes more until the top has ended, its closing packets are all there, and the packet that is still here is the last given
  pub record IsGoing (w : Worker O S) : Type 0 where
    pub opens : w.is_over ≡ false → is_open w.sender ≡ true
    pub closing : w.closing.items ≡ closing_of (post w.sender)
    pub pending : (x : ℕ × PacketView) → w.pending ≡ Some x → has_closed w.sender ≡ closes x.1.content

  -- by phase
  abbrev pub IsReadyIn : WorkerState → Worker O S → Type 0
  IsReadyIn Running w = IsGoing w
  IsReadyIn (Failing f) w = IsClosing w
  IsReadyIn (Draining f) w = Unit {0}
  IsReadyIn Well w = Unit {0}
  IsReadyIn (Failed f) w = Unit {0}

-- what a worker needs before any step: its operators and its sending end take the rows that they are given, where m says the types of each scan's morsels
pub record IsReady {O S : Type 0} (types : O → Shape) (post : S → Post) (is_open has_closed : S → Bool) (m : ℕ → List ColType) (w : Worker O S) : Type 0 where
  pub typed : TreeTyped types m w.tree
  pub sends : tree_types types w.tree ≡ post_types (post w.sender)
  pub phase : IsReadyIn post is_open has_closed w.phase w

-- while it closes its ports: with the packets that are still here its trace is that of a worker that failed
abbrev pub closed_trace : {O S : Type 0} → Worker O S → Trace → Trace
closed_trace w t = record t { sent = with_all (with_pending t.sent w.pending) w.closing.items }

-- the operators of a worker that failed stand, and so do their counts, by what they read and gave before it did: a beginning of what was drawn and taken
pub record OperatorsStand {O : Type 0} (OS : O → Ledger → Type 0) (m : ℕ → ℕ → List Row) (tree : Tree O) (t : Trace) : Type 0 where
  pub reads : Reads
  pub reads_begin : ReadsBeginOf m t reads
  pub out : Stream
  pub tree_stands : TreeStands OS tree reads out

-- those of a worker that ended well stand by all of it
abbrev pub EndedWell : {O : Type 0} → (OS : O → Ledger → Type 0) → (op : O → Op) → (goes : Routing) → (m : ℕ → ℕ → List Row) → Tree O → Task → Trace → Type 0
EndedWell OS op goes m tree task t = (x : IsWellBy m goes (shape op tree) task t) × TreeStands OS tree x.reads x.out

-- when a worker may have done what a trace says, where rows go as `goes` says, and m says the rows of each scan's morsels
module _ {O S : Type 0} (OS : O → Ledger → Type 0) (op : O → Op) (SS : S → Routing → Stream → (ℕ → List PacketView) → Type 0) (task : S → Task) (goes : Routing)
    (m : ℕ → ℕ → List Row) where
  -- while it runs: its tree read all that was drawn and taken, and its sending end accepted what the tree gave, and gave what was put and what is still here
  pub record IsRunning (w : Worker O S) (t : Trace) : Type 0 where
    pub reads : Reads
    pub reads_are : ReadsAreOf m t reads
    pub ended : (n : ℕ) → (reads.scanned n).over ≡ stream_state.Ended → has_met_end w.intake n ≡ true
    pub low : ℕ
    pub high : ℕ
    pub numbered : Numbered low high w.tree
    pub out : Stream
    pub tree : TreeStands OS w.tree reads out
    pub sender : SS w.sender goes out (with_pending t.sent w.pending)
    pub is_over : w.is_over ≡ true → out.over ≡ stream_state.Ended

  -- by phase
  abbrev pub StandsIn : WorkerState → Worker O S → Trace → Type 0
  StandsIn Running w t = IsRunning w t
  StandsIn (Failing f) w t = HasFailedBy m goes (shape op w.tree) (task w.sender) f (closed_trace w t) × OperatorsStand OS m w.tree t
  StandsIn (Draining f) w t = HasFailedBy m goes (shape op w.tree) (task w.sender) f t × OperatorsStand OS m w.tree t
  StandsIn Well w t = EndedWell OS op goes m w.tree (task w.sender) t
  StandsIn (Failed f) w t = HasFailedBy m goes (shape op w.tree) (task w.sender) f t × OperatorsStand OS m w.tree t × IsDrained (sources_of w.intake) t

  -- and what its intake notes as ended has ended
  abbrev pub WorkerStands : Worker O S → Trace → Type 0
  WorkerStands w t = IntakeStands w.intake t × StandsIn w.phase w t

-- an ended worker's trace is honest, and one that failed took what each producer sent to its end
abbrev pub EndsAs : {O S : Type 0} → (op : O → Op) → (task : S → Task) → Routing → (m : ℕ → ℕ → List Row) → WorkerOutcome → Worker O S → Trace → Type 0
EndsAs op task goes m worker_outcome.Well w t = HonestBy m goes (shape op w.tree) (task w.sender) well t
EndsAs op task goes m (worker_outcome.Failed f) w t = HonestBy m goes (shape op w.tree) (task w.sender) (failed f) t × IsDrained (sources_of w.intake) t

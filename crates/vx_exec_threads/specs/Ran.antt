-- What a worker and what its thread holds came to by steps (our own).
use Rattle.std.specs.Prelude.{◌≡◌, ℕ, List, [], ◌∷◌}
use Rattle.vx_rows_values.specs.Values.{Val, Row}
use Rattle.vx_plan_nodes.specs.Routes.{Routing}
use Rattle.vx_ports.specs.Packets.{PacketView}
use Rattle.vx_ops.specs.Ledger.{Stream, Ledger, Op}
use Rattle.vx_exchange_ends.specs.Tasks.{Task, Post}
use Rattle.vx_exchange_ends.specs.Sending.{RoutesAs}
use Rattle.vx_exec_setup.specs.declared.counts.StepCounts.{StepCounts}
use Rattle.vx_worker.specs.Counts.{with_event, with_answer}
use Rattle.vx_worker.specs.Trace.{Trace, Event, added}
use Rattle.vx_ops.specs.Turn.{Coming}
use Rattle.vx_worker.specs.Trees.{shape, IsFormed}
use Rattle.vx_worker.specs.Remaining.{Spends}
use Rattle.vx_worker.specs.Worker.{role_of, sender_of, tree_of, inputs_of, counts_of, WorkerStands}
use Rattle.vx_worker.specs.declared.worker.StepOutcome.{StepOutcome}
use Rattle.vx_worker.specs.declared.worker.Worker.{Worker}
use Rattle.vx_exec_threads.specs.Holds.{Hold, Bears, SameEnds}

-- the trace with the events of these steps
abbrev pub trace_with : Trace → List (Event × StepOutcome) → Trace
trace_with t [] = t
trace_with t (s ∷ steps) = trace_with (added t s.0) steps

-- the counts with these steps: what happened in each, and what it answered
abbrev pub counts_with : StepCounts → List (Event × StepOutcome) → StepCounts
counts_with c [] = c
counts_with c (s ∷ steps) = counts_with (with_answer (with_event c s.0) s.1) steps

module _ {O S : Type 0} (OS : O → Ledger → Type 0) (op : O → Op) (SS : S → Routing → Stream → (ℕ → List PacketView) → Type 0) (task : S → Task)
    (post : S → Post) (bounds : S → List Val) (hash : List ℕ → Row → ℕ → ℕ) (m : ℕ → ℕ → List Row) where
  -- the worker keeps its role and the thread its ends; where a trace stood that these carried, it stands with the events of the worker's steps; and these
  -- are the steps that the worker counted
  pub record Ran (w : Worker O S) (a : Hold) (v : Worker O S) (b : Hold) : Type 0 where
    pub role : role_of op post bounds v ≡ role_of op post bounds w
    pub same : SameEnds a b
    pub steps : List (Event × StepOutcome)
    pub counts : counts_of v ≡ counts_with (counts_of w) steps
    pub traces : (goes : Routing) → RoutesAs (post (sender_of w)) (bounds (sender_of w)) hash goes
        → (t : Trace) → WorkerStands OS op SS task goes m w t → Bears a t
        → WorkerStands OS op SS task goes m v (trace_with t steps) × Bears b (trace_with t steps)

-- the worker made one step: it counted it, and spent one of those that it had left where it went on
pub record HasStepped {O S : Type 0} (OS : O → Ledger → Type 0) (op : O → Op) (most idle_turns : O → Coming → ℕ) (SS : S → Routing → Stream → (ℕ → List PacketView) → Type 0)
    (task : S → Task) (post : S → Post) (held : S → ℕ → ℕ) (unclosed : S → ℕ) (m : ℕ → ℕ → List Row) (w v : Worker O S) : Type 0 where
  pub event : Event
  pub answer : StepOutcome
  pub counts : counts_of v ≡ with_answer (with_event (counts_of w) event) answer
  pub spends : (goes : Routing) (t : Trace) → IsFormed (shape op (tree_of w)) → WorkerStands OS op SS task goes m w t
      → Spends most idle_turns post held unclosed m (shape op (tree_of w)) (inputs_of w) w v t event answer

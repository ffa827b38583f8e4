-- Which steps were made: of which workers, in which order, and that no others were.
use Rattle.std.specs.Prelude.{ℕ, zero, suc, ◌≡◌, ◌<◌, ◌≤◌, ◌⊎◌, List, [], ◌∷◌, ◌++◌, length, set}
use Rattle.std.specs.List.{All, slice_index_or}
use Rattle.vx_rows_values.specs.Values.{Val, Row}
use Rattle.vx_plan_nodes.specs.Routes.{Routing}
use Rattle.vx_ports.specs.Packets.{PacketView}
use Rattle.vx_ops.specs.Ledger.{Stream, Ledger, Op}
use Rattle.vx_ops.specs.Turn.{Coming}
use Rattle.vx_ops.specs.declared.turn.Want.{Want}
use Rattle.vx_exchange_ends.specs.Tasks.{Task, Post}
use Rattle.vx_exchange_ends.specs.Sending.{RoutesAs}
use Rattle.vx_worker.specs.Trace.{Trace, Event, added}
use Rattle.vx_worker.specs.Answering.{Answered}
use Rattle.vx_worker.specs.Counts.{with_event, with_answer}
use Rattle.vx_worker.specs.Trees.{shape, IsFormed}
use Rattle.vx_worker.specs.Worker.{role_of, tree_of, sender_of, inputs_of, counts_of, WorkerStands}
use Rattle.vx_worker.specs.Remaining.{Spends}
use Rattle.vx_worker.specs.declared.worker.StepOutcome.{StepOutcome}
use Rattle.vx_worker.specs.declared.worker.Worker.{Worker}
use Rattle.vx_exec_steps.specs.LinksView.{LinksView, Does, PortIsClosed}
use Rattle.vx_exec_steps.specs.Verdicts.{HasEnded}

-- each of so many workers once, in number order
abbrev pub round : (workers : ℕ) → List ℕ
round zero = []
round (suc k) = round k ++ k ∷ []

-- so many rounds
abbrev pub rounds : (n workers : ℕ) → List ℕ
rounds zero k = []
rounds (suc n) k = rounds n k ++ round k

module _ {O S : Type 0} (OS : O → Ledger → Type 0) (want : O → Want) (op : O → Op) (most idle_turns : O → Coming → ℕ) (SS : S → Routing → Stream → (ℕ → List PacketView) → Type 0) (task : S → Task) (post : S → Post)
    (bounds : S → List Val) (held : S → ℕ → ℕ) (unclosed : S → ℕ)
    (hash : List ℕ → Row → ℕ → ℕ) (m : ℕ → ℕ → List Row) where
  -- worker i made one step, of one event with its own wires, gave an answer that is true of it, spent one of its steps where it went on, and counted the
  -- event and the answer: all other workers are as they were, and one that had ended stays as it is
  pub record Steps (i : ℕ) (ws : List (Worker O S)) (w : LinksView) (vs : List (Worker O S)) (v : LinksView) : Type 0 where
    pub within : i < length ws
    pub before : Worker O S
    pub after : Worker O S
    pub here : (d : Worker O S) → slice_index_or ws i d ≡ before
    pub now : vs ≡ set ws i after
    pub event : Event
    pub does : Does (record w { turn = i }) event v
    pub role : role_of op post bounds after ≡ role_of op post bounds before
    pub stands : (goes : Routing) → RoutesAs (post (sender_of before)) (bounds (sender_of before)) hash goes
        → (t : Trace) → WorkerStands OS op SS task goes m before t → WorkerStands OS op SS task goes m after (added t event)
    pub answer : StepOutcome
    pub answered : Answered OS want (PortIsClosed (record w { turn = i })) ⊥ before after event answer
    pub spends : (goes : Routing) (t : Trace) → IsFormed (shape op (tree_of before)) → WorkerStands OS op SS task goes m before t
        → Spends most idle_turns post held unclosed m (shape op (tree_of before)) (inputs_of before) before after t event answer
    pub counted : counts_of after ≡ with_answer (with_event (counts_of before) event) answer
    pub still : HasEnded before → after ≡ before

  -- exactly these steps were made, in this order
  abbrev pub Follows : List ℕ → List (Worker O S) → LinksView → List (Worker O S) → LinksView → Type 0
  Follows [] ws w vs v = (vs ≡ ws) × (v ≡ w)
  Follows (s ∷ rest) ws w vs v = (us : List (Worker O S)) × (u : LinksView) × Steps s ws w us u × Follows rest us u vs v

  -- rounds of all workers were made, and nothing else: so many as the limit says, or fewer where all workers have ended
  pub record FollowsRounds (limit : ℕ) (ws : List (Worker O S)) (w : LinksView) (vs : List (Worker O S)) (v : LinksView) : Type 0 where
    pub count : ℕ
    pub at_most : count ≤ limit
    pub follows : Follows (rounds count (length ws)) ws w vs v
    pub whole : (count ≡ limit) ⊎ All HasEnded vs

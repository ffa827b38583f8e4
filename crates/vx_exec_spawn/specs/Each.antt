-- Of each worker that goes into a thread, and of what came back of it (our own).
use Rattle.std.specs.Prelude.{◌≡◌, ℕ, List, [], ◌∷◌, Option, Bool}
use Rattle.std.specs.List.{All}
use Rattle.vx_rows_values.specs.Values.{Val, Row}
use Rattle.vx_rows_values.specs.declared.value.ColType.{ColType}
use Rattle.vx_plan_nodes.specs.Routes.{Routing}
use Rattle.vx_ports.specs.Packets.{PacketView}
use Rattle.vx_ops.specs.Ledger.{Stream, Ledger, Op}
use Rattle.vx_ops.specs.Turn.{Shape}
use Rattle.vx_exchange_ends.specs.Tasks.{Task, Post}
use Rattle.vx_worker.specs.Worker.{IsReady}
use Rattle.vx_morsel_decks.specs.Seats.{DeckView}
use Rattle.vx_exec_threads.specs.Drawers.{Sits}
use Rattle.vx_exec_spawn.specs.Honest.{IsHonest}
use Rattle.vx_exec_spawn.specs.declared.member.CrewMember.{CrewMember}
use Rattle.vx_exec_spawn.specs.declared.member.Joined.{Joined}
use Rattle.vx_exec_spawn.specs.declared.promise.JoinPromise.{JoinPromise}
use Rattle.std.specs.declared.thread.PromisedHandle.{PromisedHandle}

-- each worker can make its first step, and its seats are of these decks
abbrev pub AllReady : {O S : Type 0} → (O → Shape) → (S → Post) → (is_open has_closed : S → Bool) → (ℕ → List ColType) → List DeckView
    → List (CrewMember O S) → Type 0
AllReady types post is_open has_closed m decks [] = Unit {0}
AllReady types post is_open has_closed m decks (p ∷ ps) =
    IsReady types post is_open has_closed m p.worker × All (Sits decks) p.ends.draws.items × AllReady types post is_open has_closed m decks ps

-- the handle of a worker's thread
abbrev pub HandleOf : (O S G R : Type 0) → Type 0
HandleOf O S G R = PromisedHandle (Option (Joined O S)) (JoinPromise O S G R)

module _ {O S G R : Type 0} where
  -- the workers that the threads were given
  abbrev pub members_of : List (HandleOf O S G R) → List (CrewMember O S)
  members_of [] = []
  members_of (h ∷ hs) = h.promise.member.value ∷ members_of hs

  -- all threads have this router and these morsels
  abbrev pub AllLent : (R → List ℕ → Row → ℕ → ℕ) → (G → ℕ → ℕ → List Row) → (List ℕ → Row → ℕ → ℕ) → (ℕ → ℕ → List Row)
      → List (HandleOf O S G R) → Type 0
  AllLent route morsel hash m [] = Unit {0}
  AllLent route morsel hash m (h ∷ hs) = (route h.promise.router.now ≡ hash) × (morsel h.promise.morsels.now ≡ m) × AllLent route morsel hash m hs

module _ {O S : Type 0} (OS : O → Ledger → Type 0) (op : O → Op) (SS : S → Routing → Stream → (ℕ → List PacketView) → Type 0) (task : S → Task) (post : S → Post) (bounds : S → List Val)
    (hash : List ℕ → Row → ℕ → ℕ) (m : ℕ → ℕ → List Row) where
  -- what came back, worker by worker, is honest
  abbrev pub EachHonest : List (CrewMember O S) → List (Joined O S) → Type 0
  EachHonest [] [] = Unit {0}
  EachHonest [] (j ∷ js) = ⊥
  EachHonest (p ∷ ps) [] = ⊥
  EachHonest (p ∷ ps) (j ∷ js) = IsHonest OS op SS task post bounds hash m p j × EachHonest ps js

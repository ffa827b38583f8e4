-- What came back of all threads of a run (our own).
use Rattle.std.specs.Prelude.{◌≡◌, ℕ, List, length, map, Some, slice_get}
use Rattle.vx_rows_values.specs.Values.{Val, Row}
use Rattle.vx_plan_nodes.specs.Plan.{Plan}
use Rattle.vx_plan_nodes.specs.Routes.{Routing}
use Rattle.vx_ports.specs.Packets.{PacketView}
use Rattle.vx_ops.specs.Ledger.{Stream, Ledger, Op}
use Rattle.vx_exchange_ends.specs.Tasks.{Task, Post}
use Rattle.vx_exchange_ends.specs.Sending.{RoutesAs}
use Rattle.vx_worker.specs.Fragment.{RunModel, goes}
use Rattle.vx_worker.specs.Trace.{empty_trace, scan_morsels}
use Rattle.vx_worker.specs.Worker.{sender_of, WorkerStands}
use Rattle.vx_exec_steps.specs.Roles.{role_at, IsRoot, RolesBelow}
use Rattle.vx_plan_nodes.specs.Workers.{crew_size}
use Rattle.vx_exec_steps.specs.Runs.{roles_of}
use Rattle.vx_morsel_decks.specs.Seats.{DeckView}
use Rattle.vx_exec_threads.specs.declared.deck_place.DeckPlace.{DeckPlace}
use Rattle.vx_exec_threads.specs.Carrying.{hold_of}
use Rattle.vx_exec_threads.specs.Wired.{IsWired}
use Rattle.vx_exec_spawn.specs.declared.member.CrewMember.{CrewMember}
use Rattle.vx_exec_spawn.specs.declared.member.Joined.{Joined}
use Rattle.vx_exec_spawn.specs.Each.{EachHonest}

module _ {O S : Type 0} (OS : O → Ledger → Type 0) (op : O → Op) (SS : S → Routing → Stream → (ℕ → List PacketView) → Type 0) (task : S → Task)
    (post : S → Post) (bounds : S → List Val) (hash : List ℕ → Row → ℕ → ℕ) (m : ℕ → ℕ → List Row) where
  -- what came back of all workers of a plan, wired as the plan says: each had its role and had made no step before, and what its thread gave
  -- back is honest
  pub record WasRun (W : RunModel) (p : Plan) (decks : List DeckView) (places : List DeckPlace) (js : List (Joined O S)) : Type 0 where
    pub members : List (CrewMember O S)
    pub honest : EachHonest OS op SS task post bounds hash m members js
    pub wired : IsWired W p decks places (map (λ (c : CrewMember O S). hold_of c.ends) members)
    pub stands : (a : ℕ) (c : CrewMember O S) → slice_get members a ≡ Some c → WorkerStands OS op SS task (goes W) m c.worker empty_trace
    pub routes : (a : ℕ) (c : CrewMember O S) → slice_get members a ≡ Some c → RoutesAs (post (sender_of c.worker)) (bounds (sender_of c.worker)) hash (goes W)
    pub morsels : m ≡ scan_morsels W
    pub count : length members ≡ crew_size W.sizes p
    pub root : IsRoot W p (role_at (roles_of OS op SS task post bounds hash m (map (λ (c : CrewMember O S). c.worker) members)) 0)
    pub below : RolesBelow W (role_at (roles_of OS op SS task post bounds hash m (map (λ (c : CrewMember O S). c.worker) members))) p 1

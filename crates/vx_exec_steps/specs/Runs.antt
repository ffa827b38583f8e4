-- Steps of many workers over what they share.
use Rattle.std.specs.Prelude.{ℕ, ◌≡◌, List, map}
use Rattle.std.specs.List.{All, AllZip}
use Rattle.vx_rows_values.specs.Values.{Val, Row}
use Rattle.vx_plan_nodes.specs.Routes.{Routing}
use Rattle.vx_ports.specs.Packets.{PacketView}
use Rattle.vx_ops.specs.Ledger.{Stream, Ledger, Op}
use Rattle.vx_exchange_ends.specs.Tasks.{Task, Post}
use Rattle.vx_exchange_ends.specs.Sending.{RoutesAs}
use Rattle.vx_worker.specs.Trace.{Trace}
use Rattle.vx_worker.specs.Worker.{Role, role_of, WorkerStands}
use Rattle.vx_worker.specs.declared.worker.Worker.{Worker}
use Rattle.vx_exec_steps.specs.LinksView.{LinksView}
use Rattle.vx_exec_steps.specs.Agrees.{Agrees}
use Rattle.vx_exec_steps.specs.Same.{SameBoard}

-- rows of these workers go as `goes` says, where the hash router is this
abbrev pub RoutesAll : List Role → (List ℕ → Row → ℕ → ℕ) → Routing → Type 0
RoutesAll roles hash goes = All (λ (r : Role). RoutesAs r.post r.bounds hash goes) roles

module _ {O S : Type 0} (OS : O → Ledger → Type 0) (op : O → Op) (SS : S → Routing → Stream → (ℕ → List PacketView) → Type 0) (task : S → Task) (post : S → Post) (bounds : S → List Val)
    (hash : List ℕ → Row → ℕ → ℕ) (m : ℕ → ℕ → List Row) where
  -- what the workers are to do, in number order
  abbrev pub roles_of : List (Worker O S) → List Role
  roles_of ws = map (role_of op post bounds) ws

  -- the traces stand for the workers, and agree with what they share
  pub record Stand (goes : Routing) (ws : List (Worker O S)) (w : LinksView) (ts : List Trace) : Type 0 where
    pub workers : AllZip (WorkerStands OS op SS task goes m) ws ts
    pub agrees : Agrees w ts

  -- the workers keep their roles and their connections, and where traces stood before, others stand after
  pub record Advances (ws : List (Worker O S)) (w : LinksView) (vs : List (Worker O S)) (v : LinksView) : Type 0 where
    pub roles : roles_of vs ≡ roles_of ws
    pub same : SameBoard w v
    pub traces : (goes : Routing) → RoutesAll (roles_of ws) hash goes → (ts : List Trace) → Stand goes ws w ts → (us : List Trace) × Stand goes vs v us

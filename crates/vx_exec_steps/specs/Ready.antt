-- A run that is ready to begin, and what its end says.
use Rattle.std.specs.Prelude.{ℕ, ◌≡◌, ◌<◌, true, List, Contains}
use Rattle.std.specs.List.{All, slice_index_or}
use Rattle.vx_rows_values.specs.Values.{Val, Row}
use Rattle.vx_plan_nodes.specs.Plan.{Plan, size}
use Rattle.vx_plan_nodes.specs.Streams.{workers}
use Rattle.vx_plan_nodes.specs.Numbering.{is_fit}
use Rattle.vx_plan_nodes.specs.Routes.{Routing}
use Rattle.vx_ports.specs.Packets.{PacketView}
use Rattle.vx_ops.specs.Ledger.{Stream, Ledger, Op}
use Rattle.vx_exchange_ends.specs.Tasks.{Task, keep, Post}
use Rattle.vx_worker.specs.Fragment.{RunModel, goes}
use Rattle.vx_worker.specs.Trace.{Trace, empty_trace, scan_morsels}
use Rattle.vx_ops.specs.Turn.{Coming}
use Rattle.vx_worker.specs.Trees.{shape, TakesFrom}
use Rattle.vx_worker.specs.Remaining.{Starts}
use Rattle.vx_worker.specs.Worker.{tree_of, inputs_of, sender_of, WorkerStands}
use Rattle.vx_worker.specs.declared.worker.Worker.{Worker}
use Rattle.vx_exec_laws.specs.Layout.{AllWell}
use Rattle.vx_exec_laws.specs.Faults.{SomeFails}
use Rattle.vx_exec_steps.specs.LinksView.{LinksView}
use Rattle.vx_exec_steps.specs.Crews.{IsCrew}
use Rattle.vx_exec_steps.specs.Runs.{RoutesAll, roles_of}
use Rattle.vx_exec_steps.specs.Verdicts.{IsOwn}
use Rattle.vx_exec_steps.specs.declared.verdict.RunState.{RunState}
use Rattle.vx_exec_steps.specs.declared.verdict.RunState.TheVariants as run_state

-- what a run comes to: the traces of all workers by their numbers, which are those of a run of which all ended well, and whose first worker
-- kept the rows, or of one where all ended and some worker with this fault, which is its own where the plan is one that can be run
abbrev pub Settled : {O S : Type 0} → (S → Task) → RunModel → Plan → List (Worker O S) → RunState → Type 0
Settled {O} {S} task W p ws run_state.Done =
    (ts : ℕ → Trace) × ((d : Worker O S) (rows : List Row) → task (sender_of (slice_index_or ws 0 d)) ≡ keep rows → AllWell W p ts rows)
Settled task W p ws run_state.Unfinished = Unit {0}
Settled task W p ws (run_state.Failed f) =
    (ts : ℕ → Trace) × SomeFails W p ts f × (is_fit W.relation_of p ≡ true → 0 < workers W.sizes (size p) → IsOwn f)

module _ {O S : Type 0} (OS : O → Ledger → Type 0) (op : O → Op) (SS : S → Routing → Stream → (ℕ → List PacketView) → Type 0) (task : S → Task) (post : S → Post) (bounds : S → List Val)
    (hash : List ℕ → Row → ℕ → ℕ) (m : ℕ → ℕ → List Row) where
  -- these are all workers of the plan, in number order, none of which made a step; the board connects them;
  -- the scans' morsels and the routes are those of the setting
  pub record Ready (W : RunModel) (p : Plan) (ws : List (Worker O S)) (w : LinksView) : Type 0 where
    pub crew : IsCrew W p (roles_of OS op SS task post bounds hash m ws) w
    pub morsels : m ≡ scan_morsels W
    pub routes : RoutesAll (roles_of OS op SS task post bounds hash m ws) hash (goes W)
    pub fresh : All (λ v. WorkerStands OS op SS task (goes W) m v empty_trace) ws

module _ {O S : Type 0} (op : O → Op) (most idle_turns : O → Coming → ℕ) (post : S → Post) (held : S → ℕ → ℕ) (unclosed : S → ℕ) where
  -- a worker to which nothing came: it has no more to do than its operators have at first, and takes only of producers of its own leaves
  pub record IsRested (w : Worker O S) : Type 0 where
    pub starts : Starts most idle_turns post held unclosed (shape op (tree_of w)) w
    pub takes : (x i : ℕ) → Contains (inputs_of w) (x, i) → TakesFrom x i (shape op (tree_of w))

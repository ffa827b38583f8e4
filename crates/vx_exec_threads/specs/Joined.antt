-- What all threads of a run give back, once the ends of each ring were brought together and each deck was closed (our own).
use Rattle.std.specs.Prelude.{◌≡◌, ℕ, ◌<◌, ◌+◌, true, false, List, length, Some, slice_get}
use Rattle.std.specs.List.{AllZip}
use Rattle.vx_rows_values.specs.Values.{Val, Row}
use Rattle.vx_plan_nodes.specs.Plan.{target, Plan, scan, unary, binary, exchange, size}
use Rattle.vx_plan_nodes.specs.Routes.{Routing}
use Rattle.vx_plan_nodes.specs.Streams.{workers}
use Rattle.vx_ports.specs.Packets.{PacketView, Flows}
use Rattle.vx_morsel.specs.Draws.{DealtOut}
use Rattle.vx_morsel.specs.Hands.{HandState}
use Rattle.vx_ops.specs.Ledger.{Stream, Ledger, Op}
use Rattle.vx_exchange_ends.specs.Tasks.{Task, Post}
use Rattle.vx_worker.specs.Fragment.{RunModel, goes}
use Rattle.vx_worker.specs.Morsels.{morsel_count}
use Rattle.vx_worker.specs.Trace.{Trace, scan_morsels}
use Rattle.vx_worker.specs.Worker.{WorkerStands}
use Rattle.vx_worker.specs.declared.worker.Worker.{Worker}
use Rattle.vx_plan_nodes.specs.Workers.{workers_below, crew_size}
use Rattle.vx_exec_steps.specs.Agrees.{trace_at}
use Rattle.vx_exec_steps.specs.Roles.{role_at, IsRoot, RolesBelow, IsLinked}
use Rattle.vx_exec_steps.specs.Runs.{roles_of}
use Rattle.vx_ports_rings.specs.Ends.{put_to, taken_from}
use Rattle.vx_ports_rings.specs.declared.ring.RingOut.{RingOut}
use Rattle.vx_exec_threads.specs.declared.inlet.Inlet.{Inlet}
use Rattle.vx_morsel_decks.specs.Seats.{SeatView, draws_in}
use Rattle.vx_exec_threads.specs.declared.drawer.Dealer.TheVariants as dealer
use Rattle.vx_exec_threads.specs.Holds.{Hold, Bears, OutAt, InAt, DrawAt}

-- producer i of exchange n, which is worker a, and consumer j, which is worker b, hold the ends of one ring, and the fact about them
abbrev pub PairAt : (P : RingOut → Inlet → Type 0) → List Hold → (a j b n i : ℕ) → Type 0
PairAt P hs a j b n i = (o : RingOut) × (e : Inlet) × OutAt hs a j o × InAt hs b n i e × P o e

-- what was put went through the ring
abbrev pub FlowsThrough : RingOut → Inlet → Type 0
FlowsThrough o e = Flows (put_to o) (taken_from e.ring)

-- the seats of the workers of scan n, from `top` on, are all seats of one deck of m morsels, which was closed
pub record ClosedAt (hs : List Hold) (n top count m : ℕ) : Type 0 where
  pub t : ℕ
  pub deck : ℕ
  pub seats : List SeatView
  pub count_is : length seats ≡ count
  pub dealt : DealtOut m t (draws_in seats)
  pub held : (w : ℕ) (s : SeatView) → slice_get seats w ≡ Some s → DrawAt hs (top + w) n (dealer.Seat deck s)

-- a fact P of each ring of the plan, and each deck closed; the workers of the plan's top fragment begin at `top`, those below it at `next`
abbrev pub Together : (P : RingOut → Inlet → Type 0) → RunModel → Plan → (top next : ℕ) → List Hold → Type 0
Together P S (scan n c r true z) top next hs = ClosedAt hs n top (workers S.sizes z) (morsel_count S.morsel (length (S.db r)))
Together P S (scan n c r false z) top next hs =
    (w : ℕ) → w < workers S.sizes z → (h : HandState) × DrawAt hs (top + w) n (dealer.Hand h) × (h.morsels ≡ morsel_count S.morsel (length (S.db r)))
Together P S (unary n c op p) top next hs = Together P S p top next hs
Together P S (binary n c op p q) top next hs = Together P S p top next hs × Together P S q top (next + workers_below S.sizes p) hs
Together P S (exchange n c k merge p) top next hs =
    ((i j : ℕ) → i < workers S.sizes (size p) → j < workers S.sizes (target k) → PairAt P hs (next + i) j (top + j) n i)
    × Together P S p next (next + workers S.sizes (size p)) hs

-- what each thread holds carried what its trace says
abbrev pub AllBear : List Hold → (ℕ → Trace) → Type 0
AllBear hs ts = (a : ℕ) (h : Hold) → slice_get hs a ≡ Some h → Bears h (ts a)

-- the law: then the traces are linked as the plan says. No order of events is asked for
abbrev pub JoinedIsLinked : Type 0
JoinedIsLinked =
    (S : RunModel) (ts : ℕ → Trace) (hs : List Hold) → AllBear hs ts
    → (p : Plan) (top next : ℕ) → Together FlowsThrough S p top next hs → IsLinked S ts p top next

module _ {O S : Type 0} (OS : O → Ledger → Type 0) (op : O → Op) (SS : S → Routing → Stream → (ℕ → List PacketView) → Type 0) (task : S → Task)
    (post : S → Post) (bounds : S → List Val) (hash : List ℕ → Row → ℕ → ℕ) (m : ℕ → ℕ → List Row) where
  -- all workers of a plan came back with their roles, each with a trace that stands for it, which what its thread held carried;
  -- all rings were reunited and all decks closed
  pub record CameBack (W : RunModel) (p : Plan) (vs : List (Worker O S)) (hs : List Hold) : Type 0 where
    pub traces : List Trace
    pub stand : AllZip (WorkerStands OS op SS task (goes W) m) vs traces
    pub bear : AllBear hs (trace_at traces)
    pub morsels : m ≡ scan_morsels W
    pub count : length vs ≡ crew_size W.sizes p
    pub root : IsRoot W p (role_at (roles_of OS op SS task post bounds hash m vs) 0)
    pub below : RolesBelow W (role_at (roles_of OS op SS task post bounds hash m vs)) p 1
    pub together : Together FlowsThrough W p 0 1 hs

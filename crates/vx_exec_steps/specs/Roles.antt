-- The workers of a plan: what each is to do, and how they are connected, by recursion on the plan.
use Rattle.std.specs.Prelude.{ℕ, ◌≡◌, ◌<◌, ◌+◌, true, false, List, [], length, Some, slice_get}
use Rattle.std.specs.List.{slice_index_or}
use Rattle.vx_plan_nodes.specs.Plan.{ExchangeKind, Plan, scan, unary, binary, exchange, size}
use Rattle.vx_plan_nodes.specs.Streams.{workers}
use Rattle.vx_plan_nodes.specs.Types.{types_of}
use Rattle.vx_exchange_ends.specs.Tasks.{Task, sends_by_ship, keeps, IsAt}
use Rattle.vx_worker.specs.Morsels.{morsel_count}
use Rattle.vx_ops.specs.Ledger.{scan_op}
use Rattle.vx_worker.specs.Fragment.{RunModel, alone, fragment}
use Rattle.vx_worker.specs.Worker.{Role}
use Rattle.vx_worker.specs.Trace.{Trace, Fate, Honest}
use Rattle.vx_exec_laws.specs.RunOf.{Known, ship_of}
use Rattle.vx_exec_laws.specs.Layout.{FlatRun}
use Rattle.vx_plan_nodes.specs.Workers.{workers_below}
use Rattle.vx_exec_steps.specs.Scans.{hand_in}
use Rattle.vx_exec_steps.specs.LinksView.{LinksView, station_at}
use Rattle.vx_exec_steps.specs.declared.station.Station.{Station}
use Rattle.vx_exec_steps.specs.declared.station.Station.TheVariants.{Exchange, Shared, Whole}

-- of no worker
abbrev pub no_role : Role
no_role = record { frag = alone 0 scan_op; post = keeps []; bounds = []; inputs = [] }

-- the role of the worker with this number
abbrev pub role_at : List Role → ℕ → Role
role_at rs a = slice_index_or rs a no_role

-- the producer at place i of exchange n, over the plan p
pub record IsProducer (S : RunModel) (n : ℕ) (k : ExchangeKind) (p : Plan) (i : ℕ) (r : Role) : Type 0 where
  pub frag : r.frag ≡ fragment S i p
  pub post : r.post ≡ sends_by_ship (ship_of S n i k p)

-- the worker at the root of the plan p, which keeps the rows
pub record IsRoot (S : RunModel) (p : Plan) (r : Role) : Type 0 where
  pub frag : r.frag ≡ fragment S 0 p
  pub post : r.post ≡ keeps (types_of S.catalog p)

-- the roles of the workers below the plan's top fragment, which are numbered from `next` on
abbrev pub RolesBelow : RunModel → (roles : ℕ → Role) → Plan → (next : ℕ) → Type 0
RolesBelow S roles (scan n c r m z) next = Unit {0}
RolesBelow S roles (unary n c op p) next = RolesBelow S roles p next
RolesBelow S roles (binary n c op p q) next = RolesBelow S roles p next × RolesBelow S roles q (next + workers_below S.sizes p)
RolesBelow S roles (exchange n c k merge p) next =
    ((i : ℕ) → i < workers S.sizes (size p) → IsProducer S n k p i (roles (next + i))) × RolesBelow S roles p (next + workers S.sizes (size p))

-- a deck of so many morsels for so many workers from the first on
abbrev pub IsShared : (first count morsels : ℕ) → Station → Type 0
IsShared first count morsels (Shared s) = (s.first ≡ first) × (s.workers ≡ count) × (s.deck.morsels ≡ morsels)
IsShared first count morsels st = ⊥

-- a hand of so many morsels for each of so many workers from the first on
abbrev pub IsWhole : (first count morsels : ℕ) → Station → Type 0
IsWhole first count morsels (Whole s) = (s.first ≡ first) × (length s.hands ≡ count) × ((w : ℕ) → w < count → (hand_in s.hands w).morsels ≡ morsels)
IsWhole first count morsels st = ⊥

-- the board connects the workers of the plan's top fragment, from `top` on, and those below it, from `next` on
abbrev pub Wired : RunModel → LinksView → Plan → (top next : ℕ) → Type 0
Wired S w (scan n c r true z) top next = IsShared top (workers S.sizes z) (morsel_count S.morsel (length (S.db r))) (station_at w n)
Wired S w (scan n c r false z) top next = IsWhole top (workers S.sizes z) (morsel_count S.morsel (length (S.db r))) (station_at w n)
Wired S w (unary n c op p) top next = Wired S w p top next
Wired S w (binary n c op p q) top next = Wired S w p top next × Wired S w q top (next + workers_below S.sizes p)
Wired S w (exchange n c k merge p) top next =
    (station_at w n ≡ Exchange next top) × ((i : ℕ) → i < workers S.sizes (size p) → slice_get w.sends (next + i) ≡ Some n)
    × Wired S w p next (next + workers S.sizes (size p))

-- nothing is known of a worker
abbrev pub Anything : Known
Anything f task t = Unit {0}

-- each deck dealt out its morsels, and what each exchange's producers put flowed to its consumers, whatever else is known of the workers
abbrev pub IsLinked : RunModel → (ts : ℕ → Trace) → Plan → (top next : ℕ) → Type 0
IsLinked S ts p top next = FlatRun S Anything ts p top next

-- a worker with this role, whose task is this now, ended so, with this trace
pub record EndedAs (S : RunModel) (role : Role) (task : Task) (fate : Fate) (t : Trace) : Type 0 where
  pub at : IsAt role.post task
  pub honest : Honest S role.frag task fate t

-- each of the workers below number total, by its number
abbrev pub AllEnded : RunModel → (roles : ℕ → Role) → (tasks : ℕ → Task) → (fates : ℕ → Fate) → (ts : ℕ → Trace) → (total : ℕ) → Type 0
AllEnded S roles tasks fates ts total = (a : ℕ) → a < total → EndedAs S (roles a) (tasks a) (fates a) (ts a)

-- When all workers have ended, their traces, with a board that agrees and connects them, are a run by the workers' numbers.
use Rattle.std.proofs.Common.{ℕ, ◌≡◌, ◌<◌, ◌≤◌, ◌+◌, ◌-◌, List, length, true, false, refl, sym, ap, ◌∙◌, subst, arith, inl, inr}
use Rattle.std.proofs.lemmas.Bool.{cases_lt}
use Rattle.vx_rows_values.specs.Values.{Row}
use Rattle.vx_plan_nodes.specs.Plan.{Plan, scan, unary, binary, exchange, size}
use Rattle.vx_plan_nodes.specs.Streams.{workers}
use Rattle.vx_morsel.specs.Draws.{Draws}
use Rattle.vx_ports.specs.Packets.{is_stream}
use Rattle.vx_ports.specs.Flowing.{flow_is}
use Rattle.vx_exchange_ends.specs.Ship.{Ship}
use Rattle.vx_plan_nodes.specs.Types.{types_of}
use Rattle.vx_exchange_ends.specs.Tasks.{Task, send, keep, sends_by_ship, keeps, IsAt}
use Rattle.vx_exchange_ends.proofs.PortStreams.{finished-streams, stopped-streams}
use Rattle.vx_ops.specs.declared.fault.Fault.{Fault}
use Rattle.vx_worker.specs.Morsels.{Dispatched, morsel_count}
use Rattle.vx_worker.specs.Fragment.{RunModel, Frag, fragment, goes}
use Rattle.vx_worker.specs.Worker.{Role}
use Rattle.vx_worker.specs.Trace.{Trace, IsWell, Ends, Fate, well, failed, Honest}
use Rattle.vx_exec_laws.specs.RunOf.{Known, ship_of}
use Rattle.vx_exec_laws.specs.Layout.{FlatRun, AllWell}
use Rattle.vx_plan_nodes.specs.Workers.{workers_below, crew_size}
use Rattle.vx_exec_laws.specs.Faults.{FlatFails, SomeFails}
use Rattle.vx_exec_steps.specs.Scans.{hand_in}
use Rattle.vx_exec_steps.specs.LinksView.{LinksView, station_at, queue_at}
use Rattle.vx_exec_steps.specs.Agrees.{trace_at, DrewBelow, HasDealt, Agrees}
use Rattle.vx_exec_steps.specs.Roles.{IsRoot, RolesBelow, IsShared, IsWhole, Wired, IsLinked, EndedAs, AllEnded}
use Rattle.vx_exec_steps.specs.declared.station.Station.{Station}
use Rattle.vx_exec_steps.specs.declared.station.Station.TheVariants.{Inner, Exchange, Shared, Whole}

pub dispatched : (n m t : ℕ) (seats : ℕ → Draws) → DrewBelow n m t seats → Dispatched n m seats
dispatched n m t seats h = record { t = t; rise = h.rise; each = h.each; most = h.most; ended = h.ended }

pub shared-dealt : (st : Station) (top count m : ℕ) (drew : ℕ → Draws) → IsShared top count m st → HasDealt st drew → Dispatched count m (λ w. drew (top + w))
shared-dealt Inner top count m drew i h = absurd i
shared-dealt (Exchange x y) top count m drew i h = absurd i
shared-dealt (Whole s) top count m drew i h = absurd i
shared-dealt (Shared s) top count m drew i h =
    let P : ℕ → Type 0 = λ z. Dispatched count m (λ w. drew (z + w)) in
    let Q : ℕ → Type 0 = λ z. Dispatched z m (λ w. drew (s.first + w)) in
    let R : ℕ → Type 0 = λ z. Dispatched s.workers z (λ w. drew (s.first + w)) in
    subst P i.0 (subst Q i.1 (subst R i.2 (dispatched s.workers s.deck.morsels s.deck.next (λ w. drew (s.first + w)) h)))

pub whole-dealt : (st : Station) (top count m : ℕ) (drew : ℕ → Draws) → IsWhole top count m st → HasDealt st drew → (w : ℕ) → w < count → Dispatched 1 m (λ _. drew (top + w))
whole-dealt Inner top count m drew i h w l = absurd i
whole-dealt (Exchange x y) top count m drew i h w l = absurd i
whole-dealt (Shared s) top count m drew i h w l = absurd i
whole-dealt (Whole s) top count m drew i h w l =
    let P : ℕ → Type 0 = λ z. Dispatched 1 m (λ _. drew (z + w)) in
    let R : ℕ → Type 0 = λ z. Dispatched 1 z (λ _. drew (s.first + w)) in
    let L : ℕ → Type 0 = λ z. w < z in
    let d = h w (subst L (sym i.1) l) in
    subst P i.0 (subst R (i.2 w l) (dispatched 1 (hand_in s.hands w).morsels (hand_in s.hands w).next (λ _. drew (s.first + w)) d.drew))

-- numbers of workers below a node
pub le-left : (next a b total : ℕ) → next + (a + b) ≤ total → next + a ≤ total
le-left next a b total h = omega (arith, h)

pub le-right : (next a b total : ℕ) → next + (a + b) ≤ total → next + a + b ≤ total
le-right next a b total h = omega (arith, h)

pub lt-first : (next a b total i : ℕ) → next + (a + b) ≤ total → i < a → next + i < total
lt-first next a b total i h l = omega (arith, h, l)

-- a board that agrees links the workers that it connects, where each sent streams
pub linked : (S : RunModel) (w : LinksView) (ts : List Trace) (roles : ℕ → Role) (total : ℕ) → Agrees w ts
    → (streams : (a : ℕ) → a < total → (s : Ship) → (roles a).post ≡ sends_by_ship s → (j : ℕ) → j < s.consumers → is_stream ((trace_at ts a).sent j) ≡ true)
    → (p : Plan) (top next : ℕ) → Wired S w p top next → RolesBelow S roles p next → next + workers_below S.sizes p ≤ total → IsLinked S (trace_at ts) p top next
linked S w ts roles total agrees streams (scan n c r true z) top next wired rb le =
    shared-dealt (station_at w n) top (workers S.sizes z) (morsel_count S.morsel (length (S.db r))) (λ a. (trace_at ts a).drew n) wired (agrees.draws n)
linked S w ts roles total agrees streams (scan n c r false z) top next wired rb le =
    whole-dealt (station_at w n) top (workers S.sizes z) (morsel_count S.morsel (length (S.db r))) (λ a. (trace_at ts a).drew n) wired (agrees.draws n)
linked S w ts roles total agrees streams (unary n c op p) top next wired rb le = linked S w ts roles total agrees streams p top next wired rb le
linked S w ts roles total agrees streams (binary n c op p q) top next wired rb le = (
  linked S w ts roles total agrees streams p top next wired.0 rb.0 (le-left next (workers_below S.sizes p) (workers_below S.sizes q) total le),
  linked S w ts roles total agrees streams q top (next + workers_below S.sizes p) wired.1 rb.1 (le-right next (workers_below S.sizes p) (workers_below S.sizes q) total le),
)
linked S w ts roles total agrees streams (exchange n c k merge p) top next wired rb le = (
  linked S w ts roles total agrees streams p next (next + workers S.sizes (size p)) wired.2 rb.1 (le-right next (workers S.sizes (size p)) (workers_below S.sizes p) total le),
  λ i l. tt,
  λ i j l m.
      flow_is ((trace_at ts (next + i)).sent j) ((trace_at ts (top + j)).came n i) (queue_at w (next + i) j) (agrees.flows n next top i j wired.0 (wired.1 i l))
      (streams (next + i) (lt-first next (workers S.sizes (size p)) (workers_below S.sizes p) total i le l) (ship_of S n i k p) (rb.0 i l).post j m),
)

-- with what is known of each worker that sends, by its number
abbrev pub known : (S : RunModel) (E : Known) (ts : ℕ → Trace) (roles : ℕ → Role) (total : ℕ)
    → (each : (a : ℕ) → a < total → (f : Frag) (s : Ship) → (roles a).frag ≡ f → (roles a).post ≡ sends_by_ship s → E f (send s) (ts a))
    → (p : Plan) (top next : ℕ) → IsLinked S ts p top next → RolesBelow S roles p next → next + workers_below S.sizes p ≤ total → FlatRun S E ts p top next
known S E ts roles total each (scan n c r true z) top next links rb le = links
known S E ts roles total each (scan n c r false z) top next links rb le = links
known S E ts roles total each (unary n c op p) top next links rb le = known S E ts roles total each p top next links rb le
known S E ts roles total each (binary n c op p q) top next links rb le = (
  known S E ts roles total each p top next links.0 rb.0 (le-left next (workers_below S.sizes p) (workers_below S.sizes q) total le),
  known S E ts roles total each q top (next + workers_below S.sizes p) links.1 rb.1 (le-right next (workers_below S.sizes p) (workers_below S.sizes q) total le),
)
known S E ts roles total each (exchange n c k merge p) top next links rb le = (
  known S E ts roles total each p next (next + workers S.sizes (size p)) links.0 rb.1 (le-right next (workers S.sizes (size p)) (workers_below S.sizes p) total le),
  λ i l. each (next + i) (lt-first next (workers S.sizes (size p)) (workers_below S.sizes p) total i le l) (fragment S i p) (ship_of S n i k p) (rb.0 i l).frag (rb.0 i l).post,
  links.2,
)

-- a worker that ended sent a stream to each consumer
honest-streams : (S : RunModel) (f : Frag) (s : Ship) (fate : Fate) (t : Trace) → Honest S f (send s) fate t → (j : ℕ) → j < s.consumers → is_stream (t.sent j) ≡ true
honest-streams S f s well t h = λ j l. (finished-streams (goes S) (sends_by_ship s) (send s) h.out.rows t.sent refl h.finished).streams j
honest-streams S f s (failed x) t h = λ j l. (stopped-streams (goes S) (sends_by_ship s) (send s) h.out.rows t.sent refl h.stopped).streams j

-- a worker that sends ended as its ship says
pub ship-honest : (S : RunModel) (role : Role) (task : Task) (fate : Fate) (t : Trace) → EndedAs S role task fate t
    → (f : Frag) (s : Ship) → role.frag ≡ f → role.post ≡ sends_by_ship s → Honest S f (send s) fate t
ship-honest S role task fate t h f s ef ep = go task (subst (λ z. IsAt z task) ep h.at) (subst (λ z. Honest S z task fate t) ef h.honest)
  where
    go : (task : Task) → IsAt (sends_by_ship s) task → Honest S f task fate t → Honest S f (send s) fate t
    go (send r) i k = subst (λ z. Honest S f (send z) fate t) i k
    go (keep rows) i k = absurd i

-- so a board that agrees links workers that ended
pub ended-linked : (S : RunModel) (w : LinksView) (ts : List Trace) (roles : ℕ → Role) (tasks : ℕ → Task) (fates : ℕ → Fate) (total : ℕ) → Agrees w ts
    → AllEnded S roles tasks fates (trace_at ts) total → (p : Plan) (top next : ℕ) → Wired S w p top next → RolesBelow S roles p next → next + workers_below S.sizes p ≤ total
    → IsLinked S (trace_at ts) p top next
ended-linked S w ts roles tasks fates total agrees h =
    linked S w ts roles total agrees (λ a l s ep.
    honest-streams S (roles a).frag s (fates a) (trace_at ts a) (ship-honest S (roles a) (tasks a) (fates a) (trace_at ts a) (h a l) (roles a).frag s refl ep))

-- each worker that sends ended in some way
abbrev pub some-end : (S : RunModel) (roles : ℕ → Role) (tasks : ℕ → Task) (fates : ℕ → Fate) (ts : ℕ → Trace) (total : ℕ) → AllEnded S roles tasks fates ts total
    → (a : ℕ) → a < total → (f : Frag) (s : Ship) → (roles a).frag ≡ f → (roles a).post ≡ sends_by_ship s → Ends S f (send s) (ts a)
some-end S roles tasks fates ts total h a l f s ef ep = (fates a, ship-honest S (roles a) (tasks a) (fates a) (ts a) (h a l) f s ef ep)

-- where the worker with a number failed, the run fails
fails : (S : RunModel) (ts : ℕ → Trace) (roles : ℕ → Role) (tasks : ℕ → Task) (fates : ℕ → Fate) (total : ℕ)
    → (h : AllEnded S roles tasks fates ts total) → (x : Fault) (a : ℕ) → fates a ≡ failed x
    → (p : Plan) (top next : ℕ) (links : IsLinked S ts p top next) (rb : RolesBelow S roles p next) (le : next + workers_below S.sizes p ≤ total)
    → next ≤ a → a < next + workers_below S.sizes p → FlatFails S x ts p top next (known S (Ends S) ts roles total (some-end S roles tasks fates ts total h) p top next links rb le)
fails S ts roles tasks fates total h x a e (scan n c r true z) top next links rb le lo hi = absurd (omega (arith, lo, hi))
fails S ts roles tasks fates total h x a e (scan n c r false z) top next links rb le lo hi = absurd (omega (arith, lo, hi))
fails S ts roles tasks fates total h x a e (unary n c op p) top next links rb le lo hi = fails S ts roles tasks fates total h x a e p top next links rb le lo hi
fails S ts roles tasks fates total h x a e (binary n c op p q) top next links rb le lo hi = elim (cases_lt a (next + workers_below S.sizes p)) [
  | inl l ↦ inl (fails S ts roles tasks fates total h x a e p top next links.0 rb.0 (le-left next (workers_below S.sizes p) (workers_below S.sizes q) total le) lo l)
  | inr l ↦ inr (fails S ts roles tasks fates total h x a e q top (next + workers_below S.sizes p) links.1 rb.1
      (le-right next (workers_below S.sizes p) (workers_below S.sizes q) total le) l (omega (arith, hi)))
]
fails S ts roles tasks fates total h x a e (exchange n c k merge p) top next links rb le lo hi = elim (cases_lt a (next + workers S.sizes (size p))) [
  | inl l ↦
      let at : next + (a - next) ≡ a = omega (arith, lo) in
      inl (a - next, omega (arith, lo, l), ap fates at ∙ e)
  | inr l ↦ inr (fails S ts roles tasks fates total h x a e p next (next + workers S.sizes (size p)) links.0 rb.1
      (le-right next (workers S.sizes (size p)) (workers_below S.sizes p) total le) l (omega (arith, hi)))
]

-- the root's rows
root-keeps : (S : RunModel) (p : Plan) (role : Role) (task : Task) (fate : Fate) (t : Trace) → IsRoot S p role → EndedAs S role task fate t
    → (rows : List Row) × (task ≡ keep rows) × Honest S (fragment S 0 p) (keep rows) fate t
root-keeps S p role task fate t root h =
    go task (subst (λ z. IsAt z task) root.post h.at) (subst (λ z. Honest S z task fate t) root.frag h.honest)
  where
    go : (task : Task) → IsAt (keeps (types_of S.catalog p)) task → Honest S (fragment S 0 p) task fate t
        → (rows : List Row) × (task ≡ keep rows) × Honest S (fragment S 0 p) (keep rows) fate t
    go (send r) i k = absurd i
    go (keep rows) i k = (rows, refl, k)

keep-is : (xs ys : List Row) → keep xs ≡ keep ys → xs ≡ ys
keep-is xs ys e = cc

-- all workers of a run ended well
pub all-well : (S : RunModel) (p : Plan) (ts : ℕ → Trace) (roles : ℕ → Role) (tasks : ℕ → Task) → IsLinked S ts p 0 1
    → IsRoot S p (roles 0) → RolesBelow S roles p 1 → AllEnded S roles tasks (λ a. well) ts (crew_size S.sizes p)
    → (rows : List Row) → tasks 0 ≡ keep rows → AllWell S p ts rows
all-well S p ts roles tasks links root below h rows e =
    let r = root-keeps S p (roles 0) (tasks 0) well (ts 0) root (h 0 (omega arith)) in
    record {
      root = subst (λ z. IsWell S (fragment S 0 p) (keep z) (ts 0)) (keep-is r.0 rows (sym r.1 ∙ e)) r.2;
      below = known S (IsWell S) ts roles (crew_size S.sizes p) (λ a l f s ef ep. ship-honest S (roles a) (tasks a) well (ts a) (h a l) f s ef ep) p 0 1 links below (omega arith);
    }

-- all ended, and one of them failed
pub some-fails : (S : RunModel) (p : Plan) (ts : ℕ → Trace) (roles : ℕ → Role) (tasks : ℕ → Task) (fates : ℕ → Fate) → IsLinked S ts p 0 1
    → IsRoot S p (roles 0) → RolesBelow S roles p 1 → AllEnded S roles tasks fates ts (crew_size S.sizes p)
    → (a : ℕ) → a < crew_size S.sizes p → (x : Fault) → fates a ≡ failed x → SomeFails S p ts x
some-fails S p ts roles tasks fates links root below h a l x e =
    let r = root-keeps S p (roles 0) (tasks 0) (fates 0) (ts 0) root (h 0 (omega arith)) in
    let le : 1 + workers_below S.sizes p ≤ crew_size S.sizes p = omega arith in
    record {
      kept = r.0;
      root = (fates 0, r.2);
      below = known S (Ends S) ts roles (crew_size S.sizes p) (some-end S roles tasks fates ts (crew_size S.sizes p) h) p 0 1 links below le;
      fails = elim (cases_lt 0 a) [
        | inl z ↦ inr (fails S ts roles tasks fates (crew_size S.sizes p) h x a e p 0 1 links below le z l)
        | inr z ↦ let a0 : 0 ≡ a = omega (arith, z) in inl (ap fates a0 ∙ e)
      ];
    }

-- From a run that was ready, through its steps, to what its verdict says.
use Rattle.std.proofs.Common.{ℕ, ◌≡◌, ◌<◌, ◌+◌, List, [], ◌∷◌, length, map, Option, Some, None, IsSome, refl, sym, ap, ◌∙◌, subst, arith, true, false, slice_get}
use Rattle.std.proofs.Math.ListN.{get_or}
use Rattle.std.specs.List.{AllZip}
use Rattle.vx_rows_values.specs.Values.{Val, Row}
use Rattle.vx_plan_nodes.specs.Plan.{Plan, scan, unary, binary, exchange, size}
use Rattle.vx_plan_nodes.specs.Streams.{workers}
use Rattle.vx_plan_nodes.specs.Routes.{Routing}
use Rattle.vx_plan_nodes.specs.Numbering.{is_fit}
use Rattle.vx_ports.specs.Packets.{PacketView}
use Rattle.vx_ops.specs.Ledger.{Stream, Ledger, Op}
use Rattle.vx_ops.specs.declared.fault.Fault.{Fault}
use Rattle.vx_ops.specs.declared.fault.Fault.TheVariants.{Own, Passed}
use Rattle.vx_exchange_ends.specs.Tasks.{Task, keep, Post, IsAt}
use Rattle.vx_worker.specs.Morsels.{morsel_count}
use Rattle.vx_worker.specs.Fragment.{RunModel, goes}
use Rattle.vx_worker.specs.Trace.{Trace, empty_trace, scan_morsels, Fate, well, failed, HonestBy}
use Rattle.vx_worker.specs.Trees.{shape}
use Rattle.vx_worker.specs.Worker.{Role, role_of, outcome_in, outcome_of, fate_of, sender_of, StandsIn, WorkerStands}
use Rattle.vx_worker.specs.declared.worker.Worker.{Worker}
use Rattle.vx_worker.specs.declared.worker.WorkerState.{WorkerState}
use Rattle.vx_worker.specs.declared.worker.WorkerState.TheVariants.{Running, Failing, Draining, Well, Failed}
use Rattle.vx_worker.specs.declared.worker.WorkerOutcome.{WorkerOutcome}
use Rattle.vx_worker.specs.declared.worker.WorkerOutcome.TheVariants as worker_outcome
use Rattle.vx_exec_laws.specs.Layout.{AllWell}
use Rattle.vx_plan_nodes.specs.Workers.{workers_below, crew_size}
use Rattle.vx_exec_laws.specs.Faults.{SomeFails}
use Rattle.vx_exec_steps.specs.LinksView.{LinksView, station_at}
use Rattle.vx_exec_steps.specs.Agrees.{trace_at}
use Rattle.vx_exec_steps.specs.Same.{SameStation, SameBoard}
use Rattle.vx_exec_steps.specs.Roles.{no_role, role_at, IsRoot, RolesBelow, IsShared, IsWhole, Wired, IsLinked, EndedAs, AllEnded}
use Rattle.vx_exec_steps.specs.Runs.{roles_of, Stand, Advances}
use Rattle.vx_exec_steps.specs.Verdicts.{IsOwn, AreWell, FailWith, Judged}
use Rattle.vx_exec_steps.specs.Endings.{FailsFirst, ReportsFirst}
use Rattle.vx_exec_steps.specs.Ready.{Ready, Settled}
use Rattle.vx_exec_steps.specs.declared.station.Station.{Station}
use Rattle.vx_exec_steps.specs.declared.station.Station.TheVariants.{Inner, Exchange, Shared, Whole}
use Rattle.vx_exec_steps.specs.declared.verdict.RunState.{RunState}
use Rattle.vx_exec_steps.specs.declared.verdict.RunState.TheVariants as run_state
use Rattle.vx_exec_steps.proofs.Beginning.{idle-agrees, empty-at, fresh-zip}
use Rattle.vx_exec_steps.proofs.Build.{crew-count, crew-root, crew-below, crew-wired, crew-idle}
use Rattle.vx_exec_steps.proofs.FlatRuns.{ended-linked, all-well, some-fails}
use Rattle.vx_exec_steps.proofs.Origins.{began}
use Rattle.vx_exec_steps.proofs.RunSteps.{zip-at, get-map, map-length}

shared-same : (first count m : ℕ) (s t : Station) → SameStation s t → IsShared first count m s → IsShared first count m t
shared-same first count m Inner t e h = absurd h
shared-same first count m (Exchange x y) t e h = absurd h
shared-same first count m (Whole s) t e h = absurd h
shared-same first count m (Shared s) Inner e h = absurd e
shared-same first count m (Shared s) (Exchange x y) e h = absurd e
shared-same first count m (Shared s) (Whole t) e h = absurd e
shared-same first count m (Shared s) (Shared t) e h = (e.first ∙ h.0, e.workers ∙ h.1, e.morsels ∙ h.2)

whole-same : (first count m : ℕ) (s t : Station) → SameStation s t → IsWhole first count m s → IsWhole first count m t
whole-same first count m Inner t e h = absurd h
whole-same first count m (Exchange x y) t e h = absurd h
whole-same first count m (Shared s) t e h = absurd h
whole-same first count m (Whole s) Inner e h = absurd e
whole-same first count m (Whole s) (Exchange x y) e h = absurd e
whole-same first count m (Whole s) (Shared t) e h = absurd e
whole-same first count m (Whole s) (Whole t) e h = (e.first ∙ h.0, e.hands ∙ h.1, λ w l. e.morsels w ∙ h.2 w l)

exchange-same : (below above : ℕ) (s t : Station) → SameStation s t → s ≡ Exchange below above → t ≡ Exchange below above
exchange-same below above s t e h = let P : Station → Type 0 = λ z. SameStation z t in subst P h e

-- steps keep the connections
pub wired-same : (S : RunModel) (w v : LinksView) (p : Plan) (top next : ℕ) → SameBoard w v → Wired S w p top next → Wired S v p top next
wired-same S w v (scan n c r true z) top next s h = shared-same top (workers S.sizes z) (morsel_count S.morsel (length (S.db r))) (station_at w n) (station_at v n) (s.stations n) h
wired-same S w v (scan n c r false z) top next s h = whole-same top (workers S.sizes z) (morsel_count S.morsel (length (S.db r))) (station_at w n) (station_at v n) (s.stations n) h
wired-same S w v (unary n c op p) top next s h = wired-same S w v p top next s h
wired-same S w v (binary n c op p q) top next s h = (wired-same S w v p top next s h.0, wired-same S w v q top (next + workers_below S.sizes p) s h.1)
wired-same S w v (exchange n c k merge p) top next s h = (
  exchange-same next top (station_at w n) (station_at v n) (s.stations n) h.0,
  λ i l. ap (λ z. slice_get z (next + i)) s.sends ∙ h.1 i l,
  wired-same S w v p next (next + workers S.sizes (size p)) s h.2,
)

-- how the worker ended, where it has
abbrev fate-in : Option WorkerOutcome → Fate
fate-in None = well
fate-in (Some o) = fate_of o

none-some : (o : WorkerOutcome) → None ≡ Some o → ⊥
none-some o e = cc

well-failed : (f : Fault) → well ≡ failed f → ⊥
well-failed f e = cc

fault-is : (f g : Fault) → failed f ≡ failed g → f ≡ g
fault-is f g e = cc

some-is : (a b : WorkerOutcome) → Some a ≡ Some b → a ≡ b
some-is a b e = cc

failed-is : (o : Option WorkerOutcome) (f : Fault) → fate-in o ≡ failed f → o ≡ Some (worker_outcome.Failed f)
failed-is None f e = absurd (well-failed f e)
failed-is (Some worker_outcome.Well) f e = absurd (well-failed f e)
failed-is (Some (worker_outcome.Failed g)) f e = ap (λ z. Some (worker_outcome.Failed z)) (fault-is g f e)

pub none-is : IsSome {T = WorkerOutcome} None → ⊥
none-is e = cc

module _ {O S : Type 0} (OS : O → Ledger → Type 0) (op : O → Op) (SS : S → Routing → Stream → (ℕ → List PacketView) → Type 0) (task : S → Task) (post : S → Post) (bounds : S → List Val)
    (hash : List ℕ → Row → ℕ → ℕ) (m : ℕ → ℕ → List Row) where
  -- the trace of a worker that has ended is honest
  pub honest-in : (goes : Routing) (w : Worker O S) (t : Trace) (f : WorkerState) (o : WorkerOutcome) → outcome_in f ≡ Some o → StandsIn OS op SS task goes m f w t
      → HonestBy m goes (shape op w.tree) (task w.sender) (fate_of o) t
  honest-in goes w t Running o e h = absurd (none-some o e)
  honest-in goes w t (Failing f) o e h = absurd (none-some o e)
  honest-in goes w t (Draining f) o e h = absurd (none-some o e)
  honest-in goes w t Well o e h = subst (λ z. HonestBy m goes (shape op w.tree) (task w.sender) (fate_of z) t) (some-is worker_outcome.Well o e) h.0
  honest-in goes w t (Failed f) o e h = subst (λ z. HonestBy m goes (shape op w.tree) (task w.sender) (fate_of z) t) (some-is (worker_outcome.Failed f) o e) h.0

  -- each worker of a list that has ended, ended as its trace says
  pub ended-as : (W : RunModel) (ws : List (Worker O S)) (d : Worker O S) (us : List Trace) → m ≡ scan_morsels W → ((s : S) → IsAt (post s) (task s))
      → AllZip (WorkerStands OS op SS task (goes W) m) ws us → (a : ℕ) → a < length ws → (o : WorkerOutcome) → outcome_of (get_or ws a d) ≡ Some o
      → EndedAs W (role_at (roles_of OS op SS task post bounds hash m ws) a) (task (sender_of (get_or ws a d))) (fate_of o) (trace_at us a)
  ended-as W ws d us em at h a l o e =
      let w = get_or ws a d in
      let t = trace_at us a in
      let role : role_at (roles_of OS op SS task post bounds hash m ws) a ≡ role_of op post bounds w = get-map (role_of op post bounds) ws a d no_role l in
      let honest : HonestBy m (goes W) (shape op w.tree) (task w.sender) (fate_of o) t =
      honest-in (goes W) w t w.phase o e (zip-at (WorkerStands OS op SS task (goes W) m) ws us a d empty_trace l h).1
      in
      subst (λ z. EndedAs W z (task w.sender) (fate_of o) t) (sym role)
      (record { at = at w.sender; honest = subst (λ z. HonestBy z (goes W) (shape op w.tree) (task w.sender) (fate_of o) t) em honest })

  -- the traces after the steps, the workers' roles, and what connects them
  record After (W : RunModel) (p : Plan) (vs : List (Worker O S)) (v : LinksView) : Type 0 where
    us : List Trace
    stand : Stand OS op SS task post bounds hash m (goes W) vs v us
    count : length vs ≡ crew_size W.sizes p
    root : IsRoot W p (role_at (roles_of OS op SS task post bounds hash m vs) 0)
    below : RolesBelow W (role_at (roles_of OS op SS task post bounds hash m vs)) p 1
    wired : Wired W v p 0 1

  after-steps : (W : RunModel) (p : Plan) (ws vs : List (Worker O S)) (w v : LinksView) → Ready OS op SS task post bounds hash m W p ws w
      → Advances OS op SS task post bounds hash m ws w vs v → After W p vs v
  after-steps W p ws vs w v ready steps =
      let roles = roles_of OS op SS task post bounds hash m ws in
      let none : List Trace = map (λ (x : Worker O S). empty_trace) ws in
      let before : Stand OS op SS task post bounds hash m (goes W) ws w none = record {
        workers = fresh-zip (WorkerStands OS op SS task (goes W) m) ws ready.fresh;
        agrees = idle-agrees w none (crew-idle W p roles w ready.crew) (empty-at ws);
      }
      in
      let went = steps.traces (goes W) ready.routes none before in
      let here : roles_of OS op SS task post bounds hash m vs ≡ roles = steps.roles in
      record {
        us = went.0;
        stand = went.1;
        count = sym (map-length (role_of op post bounds) vs) ∙ ap (λ (z : List Role). length z) here ∙ crew-count W p roles w ready.crew;
        root = subst (λ z. IsRoot W p (role_at z 0)) (sym here) (crew-root W p roles w ready.crew);
        below = subst (λ z. RolesBelow W (role_at z) p 1) (sym here) (crew-below W p roles w ready.crew);
        wired = wired-same W w v p 0 1 steps.same (crew-wired W p roles w ready.crew);
      }

  module _ (W : RunModel) (p : Plan) (vs : List (Worker O S)) (v : LinksView) (em : m ≡ scan_morsels W) (at : (s : S) → IsAt (post s) (task s)) (after : After W p vs v) where
    abbrev roles : ℕ → Role
    roles a = role_at (roles_of OS op SS task post bounds hash m vs) a

    abbrev tasks : Worker O S → ℕ → Task
    tasks d a = task (sender_of (get_or vs a d))

    settled-well : AreWell vs (length vs) → (d : Worker O S) (rows : List Row) → task (sender_of (get_or vs 0 d)) ≡ keep rows → AllWell W p (trace_at after.us) rows
    settled-well h d rows e =
        let all : AllEnded W roles (tasks d) (λ a. well) (trace_at after.us) (crew_size W.sizes p) = λ a l.
        let here : a < length vs = subst (λ z. a < z) (sym after.count) l in
        ended-as W vs d after.us em at after.stand.workers a here worker_outcome.Well (h a d here)
        in
        let links = ended-linked W v after.us roles (tasks d) (λ a. well) (crew_size W.sizes p) after.stand.agrees all p 0 1 after.wired after.below (omega arith) in
        all-well W p (trace_at after.us) roles (tasks d) links after.root after.below all rows e

    abbrev fates : Worker O S → ℕ → Fate
    fates d a = fate-in (outcome_of (get_or vs a d))

    each-ended : (d : Worker O S) (f : Fault) → FailWith vs (length vs) f → AllEnded W roles (tasks d) (fates d) (trace_at after.us) (crew_size W.sizes p)
    each-ended d f h a l =
        let here : a < length vs = subst (λ z. a < z) (sym after.count) l in
        go (outcome_of (get_or vs a d)) refl (h.ended a d here) here
      where
        go : (o : Option WorkerOutcome) → outcome_of (get_or vs a d) ≡ o → IsSome o → a < length vs → EndedAs W (roles a) (tasks d a) (fate-in (outcome_of (get_or vs a d))) (trace_at after.us a)
        go None e i l = absurd (none-is i)
        go (Some o) e i l = subst (λ z. EndedAs W (roles a) (tasks d a) (fate-in z) (trace_at after.us a)) (sym e) (ended-as W vs d after.us em at after.stand.workers a l o e)

    fail-links : (d : Worker O S) (f : Fault) → FailWith vs (length vs) f → IsLinked W (trace_at after.us) p 0 1
    fail-links d f h = ended-linked W v after.us roles (tasks d) (fates d) (crew_size W.sizes p) after.stand.agrees (each-ended d f h) p 0 1 after.wired after.below (omega arith)

    settled-failed : (d : Worker O S) (f : Fault) → FailWith vs (length vs) f → SomeFails W p (trace_at after.us) f
    settled-failed d f h =
        some-fails W p (trace_at after.us) roles (tasks d) (fates d) (fail-links d f h) after.root after.below (each-ended d f h)
        h.number (subst (λ z. h.number < z) after.count h.within) f (ap fate-in (h.here d))

    -- the fault that is answered is the worker's own
    settled-own : (d : Worker O S) (f : Fault) → FailWith vs (length vs) f → is_fit W.relation_of p ≡ true → 0 < workers W.sizes (size p) → IsOwn f
    settled-own d (Own code node) h fit some = tt
    settled-own d Passed h fit some =
        let x = began W p (trace_at after.us) roles (tasks d) (fates d) fit some (fail-links d Passed h) after.root after.below (each-ended d Passed h)
        h.number (subst (λ z. h.number < z) after.count h.within) (ap fate-in (h.here d))
        in
        (h.first x.number d x.fault (subst (λ z. x.number < z) (sym after.count) x.within) x.own (failed-is (outcome_of (get_or vs x.number d)) x.fault x.here)).0

    -- it is that of the lowest-numbered worker that failed by itself
    settled-first : (d : Worker O S) (f : Fault) → FailWith vs (length vs) f → is_fit W.relation_of p ≡ true → 0 < workers W.sizes (size p) → FailsFirst W p f
    settled-first d f h fit some = record {
      fates = fates d;
      ended = record {
        roles = roles;
        tasks = tasks d;
        traces = trace_at after.us;
        root = after.root;
        below = after.below;
        each = each-ended d f h;
        linked = fail-links d f h;
      };
      first = record {
        own = settled-own d f h fit some;
        number = h.number;
        within = subst (λ z. h.number < z) after.count h.within;
        here = ap fate-in (h.here d);
        first = λ k g l o e.
            let low = h.within in
            let at = (h.first k d g (omega (arith, l, low)) o (failed-is (outcome_of (get_or vs k d)) g e)).1 in
            omega (arith, l, at);
      };
    }

    abides-in : (xs : List (Worker O S)) → vs ≡ xs → is_fit W.relation_of p ≡ true → 0 < workers W.sizes (size p) → (x : RunState) → Judged vs x → ReportsFirst W p x
    abides-in xs e fit some run_state.Done h = tt
    abides-in xs e fit some run_state.Unfinished h = tt
    abides-in [] e fit some (run_state.Failed f) h =
        let z = h.within in
        let n : length vs ≡ 0 = ap (λ (z : List (Worker O S)). length z) e in
        absurd (omega (arith, z, n))
    abides-in (d ∷ rest) e fit some (run_state.Failed f) h = settled-first d f h fit some

    settled-in : (xs : List (Worker O S)) → vs ≡ xs → (x : RunState) → Judged vs x → Settled task W p vs x
    settled-in xs e run_state.Done h = (trace_at after.us, settled-well h)
    settled-in xs e run_state.Unfinished h = tt
    settled-in [] e (run_state.Failed f) h =
        let z = h.within in
        let n : length vs ≡ 0 = ap (λ (z : List (Worker O S)). length z) e in
        absurd (omega (arith, z, n))
    settled-in (d ∷ rest) e (run_state.Failed f) h = (trace_at after.us, settled-failed d f h, settled-own d f h)

  -- what a run that was ready comes to
  pub settled : (W : RunModel) (p : Plan) (ws vs : List (Worker O S)) (w v : LinksView) → ((s : S) → IsAt (post s) (task s)) → Advances OS op SS task post bounds hash m ws w vs v
      → (x : RunState) → Judged vs x → Ready OS op SS task post bounds hash m W p ws w → Settled task W p vs x
  settled W p ws vs w v at steps x judged ready = settled-in W p vs v ready.morsels at (after-steps W p ws vs w v ready steps) vs refl x judged

  -- whose fault a run that was ready reports
  pub abides : (W : RunModel) (p : Plan) (ws vs : List (Worker O S)) (w v : LinksView) → ((s : S) → IsAt (post s) (task s)) → Advances OS op SS task post bounds hash m ws w vs v
      → is_fit W.relation_of p ≡ true → 0 < workers W.sizes (size p) → (x : RunState) → Judged vs x → Ready OS op SS task post bounds hash m W p ws w → ReportsFirst W p x
  abides W p ws vs w v at steps fit some x judged ready = abides-in W p vs v ready.morsels at (after-steps W p ws vs w v ready steps) vs refl fit some x judged

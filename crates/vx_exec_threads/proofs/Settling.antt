-- From all that came back to what the verdict says.
use Rattle.std.proofs.Common.{ℕ, ◌≡◌, ◌<◌, List, [], ◌∷◌, length, Option, Some, None, IsSome, refl, sym, ap, subst, arith, true}
use Rattle.std.proofs.Math.ListN.{get_or}
use Rattle.vx_rows_values.specs.Values.{Val, Row}
use Rattle.vx_plan_nodes.specs.Plan.{Plan, size}
use Rattle.vx_plan_nodes.specs.Streams.{workers}
use Rattle.vx_plan_nodes.specs.Routes.{Routing}
use Rattle.vx_plan_nodes.specs.Numbering.{is_fit}
use Rattle.vx_ports.specs.Packets.{PacketView}
use Rattle.vx_ops.specs.Ledger.{Stream, Ledger, Op}
use Rattle.vx_ops.specs.declared.fault.Fault.{Fault}
use Rattle.vx_ops.specs.declared.fault.Fault.TheVariants.{Own, Passed}
use Rattle.vx_exchange_ends.specs.Tasks.{Task, keep, Post, IsAt}
use Rattle.vx_worker.specs.Fragment.{RunModel}
use Rattle.vx_worker.specs.Trace.{Trace, Fate, well, failed}
use Rattle.vx_worker.specs.Worker.{Role, outcome_of, fate_of, sender_of}
use Rattle.vx_worker.specs.declared.worker.Worker.{Worker}
use Rattle.vx_worker.specs.declared.worker.WorkerOutcome.{WorkerOutcome}
use Rattle.vx_worker.specs.declared.worker.WorkerOutcome.TheVariants as worker_outcome
use Rattle.vx_exec_laws.specs.Layout.{AllWell}
use Rattle.vx_exec_laws.specs.Faults.{SomeFails}
use Rattle.vx_exec_steps.specs.Agrees.{trace_at}
use Rattle.vx_exec_steps.specs.Roles.{role_at, IsLinked, EndedAs, AllEnded}
use Rattle.vx_plan_nodes.specs.Workers.{crew_size}
use Rattle.vx_exec_steps.specs.Runs.{roles_of}
use Rattle.vx_exec_steps.specs.Verdicts.{IsOwn, AreWell, FailWith, Judged}
use Rattle.vx_exec_steps.specs.Endings.{FailsFirst, ReportsFirst}
use Rattle.vx_exec_steps.specs.Ready.{Settled}
use Rattle.vx_exec_steps.specs.declared.verdict.RunState.{RunState}
use Rattle.vx_exec_steps.specs.declared.verdict.RunState.TheVariants as run_state
use Rattle.vx_exec_steps.proofs.FlatRuns.{all-well, some-fails}
use Rattle.vx_exec_steps.proofs.Origins.{began}
use Rattle.vx_exec_steps.proofs.Settling.{ended-as}
use Rattle.vx_exec_threads.specs.Holds.{Hold}
use Rattle.vx_exec_threads.specs.Joined.{CameBack}
use Rattle.vx_exec_threads.proofs.Linking.{joined-is-linked}

-- how the worker ended, where it has
abbrev fate-in : Option WorkerOutcome → Fate
fate-in None = well
fate-in (Some o) = fate_of o

well-failed : (f : Fault) → well ≡ failed f → ⊥
well-failed f e = cc

fault-is : (f g : Fault) → failed f ≡ failed g → f ≡ g
fault-is f g e = cc

failed-is : (o : Option WorkerOutcome) (f : Fault) → fate-in o ≡ failed f → o ≡ Some (worker_outcome.Failed f)
failed-is None f e = absurd (well-failed f e)
failed-is (Some worker_outcome.Well) f e = absurd (well-failed f e)
failed-is (Some (worker_outcome.Failed g)) f e = ap (λ z. Some (worker_outcome.Failed z)) (fault-is g f e)

none-is : IsSome {T = WorkerOutcome} None → ⊥
none-is e = cc

module _ {O S : Type 0} (OS : O → Ledger → Type 0) (op : O → Op) (SS : S → Routing → Stream → (ℕ → List PacketView) → Type 0) (task : S → Task) (post : S → Post) (bounds : S → List Val)
    (hash : List ℕ → Row → ℕ → ℕ) (m : ℕ → ℕ → List Row) where
  module _ (W : RunModel) (p : Plan) (vs : List (Worker O S)) (hs : List Hold) (at : (s : S) → IsAt (post s) (task s)) (back : CameBack OS op SS task post bounds hash m W p vs hs) where
    abbrev ts : ℕ → Trace
    ts a = trace_at back.traces a

    abbrev roles : ℕ → Role
    roles a = role_at (roles_of OS op SS task post bounds hash m vs) a

    abbrev tasks : Worker O S → ℕ → Task
    tasks d a = task (sender_of (get_or vs a d))

    abbrev fates : Worker O S → ℕ → Fate
    fates d a = fate-in (outcome_of (get_or vs a d))

    links : IsLinked W ts p 0 1
    links = joined-is-linked W ts hs back.bear p 0 1 back.together

    within : (a : ℕ) → a < crew_size W.sizes p → a < length vs
    within a l = subst (λ z. a < z) (sym back.count) l

    all-are-well : AreWell vs (length vs) → (d : Worker O S) → AllEnded W roles (tasks d) (λ a. well) ts (crew_size W.sizes p)
    all-are-well h d a l =
        let here = within a l in
        ended-as OS op SS task post bounds hash m W vs d back.traces back.morsels at back.stand a here worker_outcome.Well (h a d here)

    settled-well : AreWell vs (length vs) → (d : Worker O S) (rows : List Row) → task (sender_of (get_or vs 0 d)) ≡ keep rows → AllWell W p ts rows
    settled-well h d rows e = all-well W p ts roles (tasks d) links back.root back.below (all-are-well h d) rows e

    each-ended : (d : Worker O S) (f : Fault) → FailWith vs (length vs) f → AllEnded W roles (tasks d) (fates d) ts (crew_size W.sizes p)
    each-ended d f h a l = let here = within a l in go (outcome_of (get_or vs a d)) refl (h.ended a d here) here
      where
        go : (o : Option WorkerOutcome) → outcome_of (get_or vs a d) ≡ o → IsSome o → a < length vs → EndedAs W (roles a) (tasks d a) (fate-in (outcome_of (get_or vs a d))) (ts a)
        go None e i l = absurd (none-is i)
        go (Some o) e i l =
            subst (λ z. EndedAs W (roles a) (tasks d a) (fate-in z) (ts a)) (sym e)
            (ended-as OS op SS task post bounds hash m W vs d back.traces back.morsels at back.stand a l o e)

    inside : (f : Fault) → (h : FailWith vs (length vs) f) → h.number < crew_size W.sizes p
    inside f h = subst (λ z. h.number < z) back.count h.within

    settled-failed : (d : Worker O S) (f : Fault) → FailWith vs (length vs) f → SomeFails W p ts f
    settled-failed d f h =
        some-fails W p ts roles (tasks d) (fates d) links back.root back.below (each-ended d f h) h.number (inside f h) f (ap fate-in (h.here d))

    settled-own : (d : Worker O S) (f : Fault) → FailWith vs (length vs) f → is_fit W.relation_of p ≡ true → 0 < workers W.sizes (size p) → IsOwn f
    settled-own d (Own code node) h fit some = tt
    settled-own d Passed h fit some =
        let x = began W p ts roles (tasks d) (fates d) fit some links back.root back.below (each-ended d Passed h) h.number (inside Passed h) (ap fate-in (h.here d)) in
        (h.first x.number d x.fault (within x.number x.within) x.own (failed-is (outcome_of (get_or vs x.number d)) x.fault x.here)).0

    settled-first : (d : Worker O S) (f : Fault) → FailWith vs (length vs) f → is_fit W.relation_of p ≡ true → 0 < workers W.sizes (size p) → FailsFirst W p f
    settled-first d f h fit some = record {
      fates = fates d;
      ended = record { roles = roles; tasks = tasks d; traces = ts; root = back.root; below = back.below; each = each-ended d f h; linked = links };
      first = record {
        own = settled-own d f h fit some;
        number = h.number;
        within = inside f h;
        here = ap fate-in (h.here d);
        first = λ k g l o e.
            let low = h.within in
            let at = (h.first k d g (omega (arith, l, low)) o (failed-is (outcome_of (get_or vs k d)) g e)).1 in
            omega (arith, l, at);
      };
    }

    none-fails : (f : Fault) → [] ≡ vs → FailWith vs (length vs) f → ⊥
    none-fails f e h =
        let z = h.within in
        let n : 0 ≡ length vs = ap (λ (z : List (Worker O S)). length z) e in
        omega (arith, z, n)

  pub settled : ((s : S) → IsAt (post s) (task s)) → (W : RunModel) (p : Plan) (vs xs : List (Worker O S)) (hs : List Hold) → vs ≡ xs → CameBack OS op SS task post bounds hash m W p vs hs
      → (x : RunState) → Judged vs x → Settled task W p vs x
  settled at W p vs xs hs e back run_state.Done h = (ts W p vs hs at back, settled-well W p vs hs at back h)
  settled at W p vs xs hs e back run_state.Unfinished h = tt
  settled at W p vs [] hs e back (run_state.Failed f) h = absurd (none-fails W p vs hs at back f (sym e) h)
  settled at W p vs (d ∷ rest) hs e back (run_state.Failed f) h = (ts W p vs hs at back, settled-failed W p vs hs at back d f h, settled-own W p vs hs at back d f h)

  pub reported : ((s : S) → IsAt (post s) (task s)) → (W : RunModel) (p : Plan) (vs xs : List (Worker O S)) (hs : List Hold) → vs ≡ xs → CameBack OS op SS task post bounds hash m W p vs hs
      → is_fit W.relation_of p ≡ true → 0 < workers W.sizes (size p) → (x : RunState) → Judged vs x → ReportsFirst W p x
  reported at W p vs xs hs e back fit some run_state.Done h = tt
  reported at W p vs xs hs e back fit some run_state.Unfinished h = tt
  reported at W p vs [] hs e back fit some (run_state.Failed f) h = absurd (none-fails W p vs hs at back f (sym e) h)
  reported at W p vs (d ∷ rest) hs e back fit some (run_state.Failed f) h = settled-first W p vs hs at back d f h fit some

-- From a failure by the worker's number to one by fragments; and overflows, from traces by the workers' numbers.
use Rattle.std.proofs.Common.{◌≡◌, ◌⊎◌, inl, inr, ⊎_elim, ℕ, ◌+◌, true, false}
use Rattle.vx_plan_nodes.specs.Plan.{Plan, scan, unary, binary, exchange, size, is_one}
use Rattle.vx_plan_nodes.specs.Streams.{workers}
use Rattle.vx_plan_nodes.specs.Real.{IsReal}
use Rattle.vx_ops.specs.declared.fault.Code.TheVariants.{Overflow}
use Rattle.vx_ops.specs.declared.fault.Fault.{Fault}
use Rattle.vx_ops.specs.declared.fault.Fault.TheVariants.{Own}
use Rattle.vx_worker.specs.Fragment.{RunModel, IsSet}
use Rattle.vx_worker.specs.Trace.{Trace, failed, Ends}
use Rattle.vx_exec_laws.specs.Layout.{FlatRun}
use Rattle.vx_plan_nodes.specs.Workers.{workers_below}
use Rattle.vx_exec_laws.specs.Faults.{FailsBelow, FlatFails, SomeFails}
use Rattle.vx_exec_laws.specs.DerivedFaults.{NumberedOverflowsDerived}
use Rattle.vx_exec_laws.proofs.Settings.{set-given}
use Rattle.vx_exec_laws.proofs.Layouts.{flat-to-run}
use Rattle.vx_exec_laws.proofs.Inherited.{IsAllowed, IsAllowedDerived}
use Rattle.vx_exec_laws.proofs.Tables.{Table, first-table, second-table}
use Rattle.vx_exec_laws.proofs.Overflows.{overflow-of-run}

-- a failure by number is a failure by fragments
flat-fails : (S : RunModel) (f : Fault) (ts : ℕ → Trace) (p : Plan) (top next : ℕ) (run : FlatRun S (Ends S) ts p top next)
    → FlatFails S f ts p top next run → FailsBelow S f p (λ w. ts (top + w)) (flat-to-run S (Ends S) ts p top next run)
flat-fails S f ts (scan n c r true z) top next run h = absurd h
flat-fails S f ts (scan n c r false z) top next run h = absurd h
flat-fails S f ts (unary n c op p) top next run h = flat-fails S f ts p top next run h
flat-fails S f ts (binary n c op p q) top next run h =
    ⊎_elim (λ a. inl (flat-fails S f ts p top next run.0 a)) (λ b. inr (flat-fails S f ts q top (next + workers_below S.sizes p) run.1 b)) h
flat-fails S f ts (exchange n c k merge p) top next run h =
    ⊎_elim (λ a. inl a) (λ b. inr (flat-fails S f ts p next (next + workers S.sizes (size p)) run.0 b)) h

-- some worker of a run failed, and the run and the worker by fragments
pub fails-so : (S : RunModel) (p : Plan) (ts : ℕ → Trace) (f : Fault) (h : SomeFails S p ts f)
    → (h.root.0 ≡ failed f) ⊎ FailsBelow S f p (λ w. ts (0 + w)) (flat-to-run S (Ends S) ts p 0 1 h.below)
fails-so S p ts f h = ⊎_elim (λ e. inl e) (λ b. inr (flat-fails S f ts p 0 1 h.below b)) h.fails

numbered-overflow : (S : RunModel) (set : IsSet S) (Has : Plan → Type 0) → Table S (set-given S set) Has → (p : Plan) → Has p → is_one (size p) ≡ true
    → (ts : ℕ → Trace) (node : ℕ) → SomeFails S p ts (Own Overflow node) → IsReal S.db p
numbered-overflow S set Has table p ok single ts node h =
    overflow-of-run S (set-given S set) set.some_morsel Has table p ok single (λ w. ts (0 + w)) h.kept h.root (flat-to-run S (Ends S) ts p 0 1 h.below) node (fails-so S p ts (Own Overflow node) h)

pub numbered-overflows : (S : RunModel) → IsSet S → (p : Plan) → IsAllowed S p → is_one (size p) ≡ true → (ts : ℕ → Trace) (node : ℕ) → SomeFails S p ts (Own Overflow node) → IsReal S.db p
numbered-overflows S set p ok single ts node h = numbered-overflow S set (IsAllowed S) (first-table S (set-given S set)) p ok single ts node h

pub numbered-overflows-derived : NumberedOverflowsDerived
numbered-overflows-derived S set p fit wf ins ok single ts node h = numbered-overflow S set (IsAllowedDerived S) (second-table S (set-given S set)) p (fit, (wf, (ins, ok))) single ts node h

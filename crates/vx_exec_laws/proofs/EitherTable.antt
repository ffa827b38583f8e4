-- The theorems on runs and faults of a plan that either rule table allows, from traces by the workers' numbers.
use Rattle.std.proofs.Common.{◌≡◌, ℕ, ◌+◌, ◌<◌, Bool, true, false, not, ◌||◌, List, sym, subst, arith}
use Rattle.vx_rows_values.specs.Values.{Row}
use Rattle.vx_catalog_relations.specs.Relation.{Relation}
use Rattle.vx_plan_nodes.specs.Plan.{Plan, size, is_one}
use Rattle.vx_plan_nodes.specs.Types.{well_formed}
use Rattle.vx_plan_nodes.specs.Phases.{is_open}
use Rattle.vx_plan_nodes.specs.Numbering.{is_fit}
use Rattle.vx_plan_nodes.specs.Streams.{Streams, workers}
use Rattle.vx_plan_nodes.specs.Runs.{Runs}
use Rattle.vx_plan_nodes.specs.Real.{IsReal}
use Rattle.vx_plan_facts.specs.RowFacts.{all_inputs_fit}
use Rattle.vx_check_rules.specs.Rules.{is_total_order}
use Rattle.vx_check_rules.specs.Derived.{is_total_derived}
use Rattle.vx_check_rules.specs.Tables.{allowed_by, root_allowed_by}
use Rattle.vx_check_rules.specs.Claims.{Delivers}
use Rattle.vx_ops.specs.declared.fault.Code.TheVariants.{Overflow}
use Rattle.vx_ops.specs.declared.fault.Fault.{Fault}
use Rattle.vx_ops.specs.declared.fault.Fault.TheVariants.{Own}
use Rattle.vx_worker.specs.Fragment.{RunModel, IsSet, goes, fragment}
use Rattle.vx_worker.specs.Trace.{Trace, IsWell, Ends}
use Rattle.vx_exchange_ends.specs.Tasks.{keep}
use Rattle.vx_exec_laws.specs.RunOf.{Made}
use Rattle.vx_exec_laws.specs.Layout.{AllWell, NumberedRunDelivers}
use Rattle.vx_exec_laws.specs.Faults.{IsOrderFault, SomeFails, NumberedFaultsAreReal}
use Rattle.vx_exec_laws.proofs.Bags.{and-left}
use Rattle.vx_exec_laws.proofs.Parts.{one-worker}
use Rattle.vx_exec_laws.proofs.Settings.{set-given}
use Rattle.vx_exec_laws.proofs.Total.{sound-at-root}
use Rattle.vx_exec_laws.proofs.DerivedFrame.{derived-sound-at-root}
use Rattle.vx_exec_laws.proofs.WellRun.{well-made, well-runs}
use Rattle.vx_exec_laws.proofs.Layouts.{flat-to-run}
use Rattle.vx_exec_laws.proofs.OrderFaults.{no-order-fault-of-run}
use Rattle.vx_exec_laws.proofs.Numbered.{fails-so, numbered-overflows, numbered-overflows-derived}
use Rattle.vx_exec_laws.proofs.CutFaults.{numbered-orders-derived}

-- the root that a table allows has one worker
pub root-is-one : (derives : Bool) (catalog : ℕ → Relation) (is_total : Bool) (p : Plan) → root_allowed_by derives catalog is_total p ≡ true → is_one (size p) ≡ true
root-is-one false catalog is_total p h = and-left (is_one (size p)) (not is_total || is_total_order catalog p) h
root-is-one true catalog is_total p h = and-left (is_one (size p)) (not is_total || is_total_derived catalog p) h

-- stream 0 of a run of an allowed plan
either-delivers : (S : RunModel) → IsSet S → (derives is_total : Bool) (p : Plan) (s : Streams)
    → well_formed S.catalog p ≡ true → all_inputs_fit S.catalog p ≡ true → is_open p ≡ false
    → allowed_by derives S.catalog p ≡ true → root_allowed_by derives S.catalog is_total p ≡ true
    → Runs S.db S.sizes (goes S) p s → Delivers S.db is_total p (s 0)
either-delivers S set false is_total p s wf inputs shut ok root run = sound-at-root S.catalog S.db S.sizes (goes S) (set-given S set) is_total p s wf shut ok root run
either-delivers S set true is_total p s wf inputs shut ok root run =
    derived-sound-at-root S.catalog S.db S.sizes (goes S) (set-given S set) is_total p s wf inputs shut ok root run

-- rows that the first worker gathered where all workers ended well are a stream of a run
rows-run : (S : RunModel) → IsSet S → (p : Plan) → is_fit S.relation_of p ≡ true → is_one (size p) ≡ true
    → (ts : ℕ → Trace) (rows : List Row) → AllWell S p ts rows → Runs S.db S.sizes (goes S) p (λ _. rows)
rows-run S set p fit single ts rows h =
    let n1 : workers S.sizes (size p) ≡ 1 = one-worker S.sizes (size p) single in
    let Q : List Row → Type 0 = λ xs. Made S (fragment S 0 p) (ts 0) xs in
    let made : Made S (fragment S 0 p) (ts 0) rows = subst Q (sym h.root.finished.0) (well-made S 0 p (keep rows) (ts 0) h.root) in
    well-runs S set p fit (λ w. ts (0 + w)) (λ w. rows)
    (λ w l.
    let P : ℕ → Type 0 = λ m. w < m in
    let z : w < 1 = subst P n1 l in
    let w0 : 0 ≡ w = omega (arith, z) in
    let R : ℕ → Type 0 = λ v. Made S (fragment S v p) (ts (0 + v)) rows in
    subst R w0 made) (flat-to-run S (IsWell S) ts p 0 1 h.below)

pub numbered-run-delivers : NumberedRunDelivers
numbered-run-delivers S set derives is_total p fit wf inputs shut ok root ts rows h =
    let run = rows-run S set p fit (root-is-one derives S.catalog is_total p root) ts rows h in
    (run, either-delivers S set derives is_total p (λ w. rows) wf inputs shut ok root run)

first-orders : (S : RunModel) → IsSet S → (p : Plan) → is_fit S.relation_of p ≡ true → well_formed S.catalog p ≡ true → allowed_by false S.catalog p ≡ true → is_one (size p) ≡ true
    → (ts : ℕ → Trace) (f : Fault) → IsOrderFault f → SomeFails S p ts f → ⊥
first-orders S set p fit wf ok single ts f o h =
    no-order-fault-of-run S (set-given S set) p (fit, (wf, ok)) single (λ w. ts (0 + w)) h.kept h.root (flat-to-run S (Ends S) ts p 0 1 h.below) f o (fails-so S p ts f h)

either-overflows : (S : RunModel) → IsSet S → (derives : Bool) (p : Plan)
    → is_fit S.relation_of p ≡ true → well_formed S.catalog p ≡ true → all_inputs_fit S.catalog p ≡ true → allowed_by derives S.catalog p ≡ true
    → is_one (size p) ≡ true → (ts : ℕ → Trace) (node : ℕ) → SomeFails S p ts (Own Overflow node) → IsReal S.db p
either-overflows S set false p fit wf inputs ok single ts node h = numbered-overflows S set p (fit, (wf, ok)) single ts node h
either-overflows S set true p fit wf inputs ok single ts node h = numbered-overflows-derived S set p fit wf inputs ok single ts node h

either-orders : (S : RunModel) → IsSet S → (derives : Bool) (p : Plan)
    → is_fit S.relation_of p ≡ true → well_formed S.catalog p ≡ true → all_inputs_fit S.catalog p ≡ true → allowed_by derives S.catalog p ≡ true
    → is_one (size p) ≡ true → (ts : ℕ → Trace) (f : Fault) → IsOrderFault f → SomeFails S p ts f → ⊥
either-orders S set false p fit wf inputs ok single ts f o h = first-orders S set p fit wf ok single ts f o h
either-orders S set true p fit wf inputs ok single ts f o h = numbered-orders-derived S set p fit wf inputs ok single ts f o h

pub numbered-faults-are-real : NumberedFaultsAreReal
numbered-faults-are-real = record { overflow = either-overflows; order = either-orders }

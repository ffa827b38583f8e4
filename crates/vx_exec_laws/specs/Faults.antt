-- A fault that a run answers is real, also where other workers were cut short.
use Rattle.std.specs.Prelude.{◌+◌, ◌≡◌, ℕ, ◌<◌, ◌⊎◌, ◌↔◌, Bool, true, List}
use Rattle.vx_worker.specs.Fragment.{IsSet, RunModel, fragment}
use Rattle.vx_exec_laws.specs.Layout.{FlatRun}
use Rattle.vx_plan_nodes.specs.Workers.{workers_below}
use Rattle.vx_rows_values.specs.Values.{Row}
use Rattle.vx_plan_nodes.specs.Plan.{Plan, scan, unary, binary, exchange, size, is_one}
use Rattle.vx_plan_nodes.specs.Types.{well_formed}
use Rattle.vx_plan_nodes.specs.Real.{IsReal}
use Rattle.vx_plan_nodes.specs.Serial.{serial, IsOverflow}
use Rattle.vx_plan_nodes.specs.Streams.{workers}
use Rattle.vx_plan_facts.specs.RowFacts.{all_inputs_fit}
use Rattle.vx_check_rules.specs.Rules.{allowed}
use Rattle.vx_check_rules.specs.Tables.{allowed_by}
use Rattle.vx_plan_nodes.specs.Erase.{erase}
use Rattle.vx_worker.specs.Trace.{Trace, failed, Ends}
use Rattle.vx_exchange_ends.specs.Tasks.{keep}
use Rattle.vx_exec_laws.specs.RunOf.{RunOf}
use Rattle.vx_plan_nodes.specs.Numbering.{is_fit}
use Rattle.vx_ops.specs.declared.fault.Code.TheVariants.{Overflow, Unsorted, Stranger}
use Rattle.vx_ops.specs.declared.fault.Fault.{Fault}
use Rattle.vx_ops.specs.declared.fault.Fault.TheVariants.{Own}
use Rattle.vx_catalog_relations.specs.Relation.{Relation}

-- some worker below an exchange of the plan ended with this fault
abbrev pub FailsBelow : (S : RunModel) → Fault → (p : Plan) (ts : ℕ → Trace) → RunOf S (Ends S) p ts → Type 0
FailsBelow S f (scan n c r m z) ts run = ⊥
FailsBelow S f (unary n c op p) ts run = FailsBelow S f p ts run
FailsBelow S f (binary n c op p q) ts run = FailsBelow S f p ts run.0 ⊎ FailsBelow S f q ts run.1
FailsBelow S f (exchange n c k merge p) ts run =
    ((i : ℕ) × (l : i < workers S.sizes (size p)) × ((run.2 i l).0 ≡ failed f)) ⊎ FailsBelow S f p run.0 run.1

-- the theorem: all workers ended, well or not, and one of them with an overflow of its own
abbrev pub OverflowIsReal : Type 0
OverflowIsReal =
    (S : RunModel) → IsSet S
    → (p : Plan) → is_fit S.relation_of p ≡ true → well_formed S.catalog p ≡ true → allowed S.catalog p ≡ true → is_one (size p) ≡ true
    → (t : Trace) (kept : List Row) (root : Ends S (fragment S 0 p) (keep kept) t) (run : RunOf S (Ends S) p (λ _. t))
    → (node : ℕ) → (root.0 ≡ failed (Own Overflow node)) ⊎ FailsBelow S (Own Overflow node) p (λ _. t) run
    → IsReal S.db p

-- rows that fall, or a packet of another exchange, producer, consumer or types
abbrev pub IsOrderFault : Fault → Type 0
IsOrderFault (Own Unsorted node) = Unit {0}
IsOrderFault (Own Stranger node) = Unit {0}
IsOrderFault f = ⊥

-- no worker of an allowed plan ends with rows that fall, or with a packet that isn't its own
abbrev pub NoOrderFault : Type 0
NoOrderFault =
    (S : RunModel) → IsSet S
    → (p : Plan) → is_fit S.relation_of p ≡ true → well_formed S.catalog p ≡ true → allowed S.catalog p ≡ true → is_one (size p) ≡ true
    → (t : Trace) (kept : List Row) (root : Ends S (fragment S 0 p) (keep kept) t) (run : RunOf S (Ends S) p (λ _. t))
    → (f : Fault) → IsOrderFault f → (root.0 ≡ failed f) ⊎ FailsBelow S f p (λ _. t) run → ⊥

-- the plan without its exchanges overflows where the plan does
abbrev pub ErasedOverflows : Type 0
ErasedOverflows = (catalog : ℕ → Relation) (db : ℕ → List Row) (p : Plan) → well_formed catalog p ≡ true → IsOverflow (serial db p) ↔ IsOverflow (serial db (erase p))

-- some worker of a fragment below an exchange ended with this fault, by numbers
abbrev pub FlatFails : (S : RunModel) → Fault → (ts : ℕ → Trace) (p : Plan) (top next : ℕ) → FlatRun S (Ends S) ts p top next → Type 0
FlatFails S f ts (scan n c r m z) top next run = ⊥
FlatFails S f ts (unary n c op p) top next run = FlatFails S f ts p top next run
FlatFails S f ts (binary n c op p q) top next run = FlatFails S f ts p top next run.0 ⊎ FlatFails S f ts q top (next + workers_below S.sizes p) run.1
FlatFails S f ts (exchange n c k merge p) top next run =
    ((i : ℕ) × (l : i < workers S.sizes (size p)) × ((run.1 i l).0 ≡ failed f)) ⊎ FlatFails S f ts p next (next + workers S.sizes (size p)) run.0

-- all workers of a run ended, and some worker with this fault
pub record SomeFails (S : RunModel) (p : Plan) (ts : ℕ → Trace) (f : Fault) : Type 0 where
  pub kept : List Row
  pub root : Ends S (fragment S 0 p) (keep kept) (ts 0)
  pub below : FlatRun S (Ends S) ts p 0 1
  pub fails : (root.0 ≡ failed f) ⊎ FlatFails S f ts p 0 1 below

-- the theorems on faults from traces by number, of a plan that either rule table allows: an overflow is real, and no order fault or stranger comes
pub record NumberedFaultsAreReal : Type 0 where
  pub overflow : (S : RunModel) → IsSet S
      → (derives : Bool) (p : Plan) → is_fit S.relation_of p ≡ true → well_formed S.catalog p ≡ true → all_inputs_fit S.catalog p ≡ true
      → allowed_by derives S.catalog p ≡ true → is_one (size p) ≡ true
      → (ts : ℕ → Trace) (node : ℕ) → SomeFails S p ts (Own Overflow node) → IsReal S.db p
  pub order : (S : RunModel) → IsSet S
      → (derives : Bool) (p : Plan) → is_fit S.relation_of p ≡ true → well_formed S.catalog p ≡ true → all_inputs_fit S.catalog p ≡ true
      → allowed_by derives S.catalog p ≡ true → is_one (size p) ≡ true
      → (ts : ℕ → Trace) (f : Fault) → IsOrderFault f → SomeFails S p ts f → ⊥

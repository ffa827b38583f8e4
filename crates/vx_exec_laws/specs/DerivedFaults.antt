-- The laws of runs in which some workers ended by a fault, by the rule table with what is known of columns.
use Rattle.std.specs.Prelude.{◌≡◌, ℕ, ◌<◌, ◌⊎◌, true, List}
use Rattle.vx_rows_values.specs.Values.{Row}
use Rattle.vx_plan_nodes.specs.Plan.{Plan, size, is_one}
use Rattle.vx_plan_nodes.specs.Types.{well_formed}
use Rattle.vx_plan_nodes.specs.Numbering.{is_fit}
use Rattle.vx_plan_nodes.specs.Real.{IsReal}
use Rattle.vx_plan_nodes.specs.Streams.{workers}
use Rattle.vx_plan_facts.specs.RowFacts.{all_inputs_fit, EachMeets}
use Rattle.vx_check_rules.specs.Derived.{allowed_derived}
use Rattle.vx_ops.specs.Ledger.{Stream}
use Rattle.vx_ops.specs.declared.fault.Code.TheVariants.{Overflow, Stranger}
use Rattle.vx_ops.specs.declared.fault.Fault.{Fault}
use Rattle.vx_ops.specs.declared.fault.Fault.TheVariants.{Own}
use Rattle.vx_exchange_ends.specs.Tasks.{keep}
use Rattle.vx_worker.specs.Fragment.{IsSet, RunModel, Reads, FragAbides, fragment}
use Rattle.vx_worker.specs.Trace.{Trace, ReadsBegin, failed, Ends}
use Rattle.vx_exec_laws.specs.RunOf.{RunOf}
use Rattle.vx_exec_laws.specs.Faults.{FailsBelow, SomeFails, IsOrderFault}

-- whatever is claimed, and wherever workers were cut short: the rows that a worker has given so far meet the facts of its node
abbrev pub RowsSoFarMeet : Type 0
RowsSoFarMeet =
    (S : RunModel) → IsSet S
    → (p : Plan) → is_fit S.relation_of p ≡ true → all_inputs_fit S.catalog p ≡ true
    → (ts : ℕ → Trace) → RunOf S (Ends S) p ts → (w : ℕ) → w < workers S.sizes (size p)
    → (reads : Reads) → ReadsBegin S (ts w) reads → (out : Stream) → FragAbides (fragment S w p) reads out
    → EachMeets S.catalog p out.rows

-- all workers ended, well or not, and one of them with an overflow of its own: it is one of the data
abbrev pub OverflowIsRealDerived : Type 0
OverflowIsRealDerived =
    (S : RunModel) → IsSet S
    → (p : Plan) → is_fit S.relation_of p ≡ true → well_formed S.catalog p ≡ true → all_inputs_fit S.catalog p ≡ true → allowed_derived S.catalog p ≡ true
    → is_one (size p) ≡ true
    → (t : Trace) (kept : List Row) (root : Ends S (fragment S 0 p) (keep kept) t) (run : RunOf S (Ends S) p (λ _. t))
    → (node : ℕ) → (root.0 ≡ failed (Own Overflow node)) ⊎ FailsBelow S (Own Overflow node) p (λ _. t) run
    → IsReal S.db p

-- the same from traces by number
abbrev pub NumberedOverflowsDerived : Type 0
NumberedOverflowsDerived =
    (S : RunModel) → IsSet S
    → (p : Plan) → is_fit S.relation_of p ≡ true → well_formed S.catalog p ≡ true → all_inputs_fit S.catalog p ≡ true → allowed_derived S.catalog p ≡ true
    → is_one (size p) ≡ true
    → (ts : ℕ → Trace) (node : ℕ) → SomeFails S p ts (Own Overflow node) → IsReal S.db p

-- whatever is claimed, no worker ends with a packet that isn't its own
abbrev pub NoStranger : Type 0
NoStranger =
    (S : RunModel) (p : Plan) → is_fit S.relation_of p ≡ true → is_one (size p) ≡ true
    → (t : Trace) (kept : List Row) (root : Ends S (fragment S 0 p) (keep kept) t) (run : RunOf S (Ends S) p (λ _. t))
    → (node : ℕ) → (root.0 ≡ failed (Own Stranger node)) ⊎ FailsBelow S (Own Stranger node) p (λ _. t) run → ⊥

-- no worker of a plan that is allowed ends with rows that fall, or with a packet that isn't its own
abbrev pub NoOrderFaultDerived : Type 0
NoOrderFaultDerived =
    (S : RunModel) → IsSet S
    → (p : Plan) → is_fit S.relation_of p ≡ true → well_formed S.catalog p ≡ true → all_inputs_fit S.catalog p ≡ true → allowed_derived S.catalog p ≡ true
    → is_one (size p) ≡ true
    → (t : Trace) (kept : List Row) (root : Ends S (fragment S 0 p) (keep kept) t) (run : RunOf S (Ends S) p (λ _. t))
    → (f : Fault) → IsOrderFault f → (root.0 ≡ failed f) ⊎ FailsBelow S f p (λ _. t) run → ⊥

-- the same from traces by number
abbrev pub NumberedOrdersDerived : Type 0
NumberedOrdersDerived =
    (S : RunModel) → IsSet S
    → (p : Plan) → is_fit S.relation_of p ≡ true → well_formed S.catalog p ≡ true → all_inputs_fit S.catalog p ≡ true → allowed_derived S.catalog p ≡ true
    → is_one (size p) ≡ true
    → (ts : ℕ → Trace) (f : Fault) → IsOrderFault f → SomeFails S p ts f → ⊥

-- The theorems on runs and faults hold of a plan under any functions.
use Rattle.std.proofs.Common.{◌≡◌, ℕ, Bool, true, false, List, ap, ◌∙◌}
use Rattle.vx_rows_values.specs.Values.{Row}
use Rattle.vx_plan_nodes.specs.Plan.{Plan, size, is_one}
use Rattle.vx_plan_nodes.specs.Types.{well_formed}
use Rattle.vx_plan_nodes.specs.Phases.{is_open}
use Rattle.vx_plan_nodes.specs.Numbering.{is_fit}
use Rattle.vx_plan_nodes.specs.Runs.{Runs}
use Rattle.vx_plan_nodes.specs.Real.{IsReal}
use Rattle.vx_plan_nodes.specs.Under.{Functions, under}
use Rattle.vx_plan_nodes.proofs.UnderFacts.{nodes-stay, phases-stay, types-stay}
use Rattle.vx_plan_facts.specs.RowFacts.{all_inputs_fit}
use Rattle.vx_plan_facts.proofs.UnderFacts.{facts-stay}
use Rattle.vx_check_rules.specs.Tables.{allowed_by, root_allowed_by}
use Rattle.vx_check_rules.specs.Claims.{Delivers}
use Rattle.vx_check_rules.proofs.UnaskedFacts.{functions-are-not-asked}
use Rattle.vx_ops.specs.declared.fault.Code.TheVariants.{Overflow}
use Rattle.vx_ops.specs.declared.fault.Fault.{Fault}
use Rattle.vx_ops.specs.declared.fault.Fault.TheVariants.{Own}
use Rattle.vx_worker.specs.Fragment.{goes, IsSet, RunModel}
use Rattle.vx_worker.specs.Trace.{Trace}
use Rattle.vx_exec_laws.specs.Layout.{AllWell}
use Rattle.vx_exec_laws.specs.Faults.{IsOrderFault, SomeFails}
use Rattle.vx_exec_laws.specs.AnyFunctions.{AnyFunctions}
use Rattle.vx_exec_laws.proofs.EitherTable.{numbered-run-delivers, numbered-faults-are-real}

delivers-under : (S : RunModel) → IsSet S → (given : Functions) (derives is_total : Bool) (p : Plan) → is_fit S.relation_of p ≡ true
    → well_formed S.catalog p ≡ true → all_inputs_fit S.catalog p ≡ true → is_open p ≡ false
    → allowed_by derives S.catalog p ≡ true → root_allowed_by derives S.catalog is_total p ≡ true
    → (ts : ℕ → Trace) (rows : List Row) → AllWell S (under given p) ts rows
    → Runs S.db S.sizes (goes S) (under given p) (λ _. rows) × Delivers S.db is_total (under given p) rows
delivers-under S set given derives is_total p fit formed inputs closed allows root ts rows h =
    numbered-run-delivers S set derives is_total (under given p) (nodes-stay.fit given S.relation_of p ∙ fit) (types-stay.formed given S.catalog p ∙ formed)
    (facts-stay.inputs given S.catalog p ∙ inputs) (phases-stay.opened given p ∙ closed) (functions-are-not-asked.allowed given derives S.catalog p ∙ allows)
    (functions-are-not-asked.root given derives S.catalog is_total p ∙ root) ts rows h

overflow-under : (S : RunModel) → IsSet S
    → (given : Functions) (derives : Bool) (p : Plan) → is_fit S.relation_of p ≡ true → well_formed S.catalog p ≡ true → all_inputs_fit S.catalog p ≡ true
    → allowed_by derives S.catalog p ≡ true → is_one (size p) ≡ true
    → (ts : ℕ → Trace) (node : ℕ) → SomeFails S (under given p) ts (Own Overflow node) → IsReal S.db (under given p)
overflow-under S set given derives p fit formed inputs allows single ts node h =
    numbered-faults-are-real.overflow S set derives (under given p) (nodes-stay.fit given S.relation_of p ∙ fit) (types-stay.formed given S.catalog p ∙ formed)
    (facts-stay.inputs given S.catalog p ∙ inputs) (functions-are-not-asked.allowed given derives S.catalog p ∙ allows) (ap is_one (nodes-stay.sizes given p) ∙ single) ts node h

order-under : (S : RunModel) → IsSet S
    → (given : Functions) (derives : Bool) (p : Plan) → is_fit S.relation_of p ≡ true → well_formed S.catalog p ≡ true → all_inputs_fit S.catalog p ≡ true
    → allowed_by derives S.catalog p ≡ true → is_one (size p) ≡ true
    → (ts : ℕ → Trace) (f : Fault) → IsOrderFault f → SomeFails S (under given p) ts f → ⊥
order-under S set given derives p fit formed inputs allows single ts f o h =
    numbered-faults-are-real.order S set derives (under given p) (nodes-stay.fit given S.relation_of p ∙ fit) (types-stay.formed given S.catalog p ∙ formed)
    (facts-stay.inputs given S.catalog p ∙ inputs) (functions-are-not-asked.allowed given derives S.catalog p ∙ allows) (ap is_one (nodes-stay.sizes given p) ∙ single) ts f o h

pub any-functions : AnyFunctions
any-functions = record { delivers = delivers-under; overflow = overflow-under; order = order-under }

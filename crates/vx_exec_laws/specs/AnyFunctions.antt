-- The main theorem under any functions: a plan is judged whatever its functions are, and a run under other functions delivers the rows of the plan under them.
use Rattle.std.specs.Prelude.{◌≡◌, ℕ, Bool, true, false, List}
use Rattle.vx_rows_values.specs.Values.{Row}
use Rattle.vx_plan_nodes.specs.Plan.{Plan, size, is_one}
use Rattle.vx_plan_nodes.specs.Types.{well_formed}
use Rattle.vx_plan_nodes.specs.Phases.{is_open}
use Rattle.vx_plan_nodes.specs.Numbering.{is_fit}
use Rattle.vx_plan_nodes.specs.Runs.{Runs}
use Rattle.vx_plan_nodes.specs.Real.{IsReal}
use Rattle.vx_plan_nodes.specs.Under.{Functions, under}
use Rattle.vx_plan_facts.specs.RowFacts.{all_inputs_fit}
use Rattle.vx_check_rules.specs.Tables.{allowed_by, root_allowed_by}
use Rattle.vx_check_rules.specs.Claims.{Delivers}
use Rattle.vx_ops.specs.declared.fault.Code.TheVariants.{Overflow}
use Rattle.vx_ops.specs.declared.fault.Fault.{Fault}
use Rattle.vx_ops.specs.declared.fault.Fault.TheVariants.{Own}
use Rattle.vx_worker.specs.Fragment.{goes, IsSet, RunModel}
use Rattle.vx_worker.specs.Trace.{Trace}
use Rattle.vx_exec_laws.specs.Layout.{AllWell}
use Rattle.vx_exec_laws.specs.Faults.{IsOrderFault, SomeFails}

-- a run, under any functions, of a plan that either rule table allows: its rows are stream 0 of a run of the plan under these functions, and those of that plan
-- without its exchanges, each as often, and the same list where the root claims a total order; an overflow is one of the data under these functions, and no order
-- fault or stranger comes
pub record AnyFunctions : Type 0 where
  pub delivers : (S : RunModel) → IsSet S → (given : Functions) (derives is_total : Bool) (p : Plan) → is_fit S.relation_of p ≡ true
      → well_formed S.catalog p ≡ true → all_inputs_fit S.catalog p ≡ true → is_open p ≡ false
      → allowed_by derives S.catalog p ≡ true → root_allowed_by derives S.catalog is_total p ≡ true
      → (ts : ℕ → Trace) (rows : List Row) → AllWell S (under given p) ts rows
      → Runs S.db S.sizes (goes S) (under given p) (λ _. rows) × Delivers S.db is_total (under given p) rows
  pub overflow : (S : RunModel) → IsSet S
      → (given : Functions) (derives : Bool) (p : Plan) → is_fit S.relation_of p ≡ true → well_formed S.catalog p ≡ true → all_inputs_fit S.catalog p ≡ true
      → allowed_by derives S.catalog p ≡ true → is_one (size p) ≡ true
      → (ts : ℕ → Trace) (node : ℕ) → SomeFails S (under given p) ts (Own Overflow node) → IsReal S.db (under given p)
  pub order : (S : RunModel) → IsSet S
      → (given : Functions) (derives : Bool) (p : Plan) → is_fit S.relation_of p ≡ true → well_formed S.catalog p ≡ true → all_inputs_fit S.catalog p ≡ true
      → allowed_by derives S.catalog p ≡ true → is_one (size p) ≡ true
      → (ts : ℕ → Trace) (f : Fault) → IsOrderFault f → SomeFails S (under given p) ts f → ⊥

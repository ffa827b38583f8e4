-- What the verdict on an accepted plan's run is worth.
use Rattle.std.specs.Prelude.{ℕ, ◌≡◌, Bool, true, false, List}
use Rattle.std.specs.List.{slice_index_or}
use Rattle.vx_rows_values.specs.Values.{Row}
use Rattle.vx_plan_nodes.specs.Plan.{Plan}
use Rattle.vx_plan_nodes.specs.Types.{well_formed}
use Rattle.vx_plan_nodes.specs.Phases.{is_open}
use Rattle.vx_plan_nodes.specs.Numbering.{is_fit}
use Rattle.vx_plan_nodes.specs.Runs.{Runs}
use Rattle.vx_plan_facts.specs.RowFacts.{all_inputs_fit}
use Rattle.vx_check_rules.specs.Tables.{allowed_by, root_allowed_by}
use Rattle.vx_check_rules.specs.Claims.{Delivers}
use Rattle.vx_ops.specs.declared.fault.Code.TheVariants.{Overflow}
use Rattle.vx_ops.specs.declared.fault.Fault.{Fault}
use Rattle.vx_ops.specs.declared.fault.Fault.TheVariants.{Own}
use Rattle.vx_exchange_ends.specs.Tasks.{Task, keep}
use Rattle.vx_worker.specs.Fragment.{RunModel, goes, IsSet}
use Rattle.vx_worker.specs.Worker.{sender_of}
use Rattle.vx_worker.specs.declared.worker.Worker.{Worker}
use Rattle.vx_exec_laws.specs.Faults.{IsOrderFault}
use Rattle.vx_plan_nodes.specs.Real.{IsReal}
use Rattle.vx_exec_steps.specs.Verdicts.{IsOwn}
use Rattle.vx_exec_steps.specs.declared.verdict.RunState.{RunState}
use Rattle.vx_exec_steps.specs.declared.verdict.RunState.TheVariants as run_state

-- a setting with its premises, and a plan that is accepted: its scans read the setting's relations, the inputs of its operators fit, no partial grouping is
-- left without its final, and the rule table that it is judged by allows it: the first one, or if the plan derives the one with what is known of columns
pub record IsAccepted (W : RunModel) (is_total : Bool) (p : Plan) : Type 0 where
  pub set : IsSet W
  pub fit : is_fit W.relation_of p ≡ true
  pub formed : well_formed W.catalog p ≡ true
  pub inputs : all_inputs_fit W.catalog p ≡ true
  pub closed : is_open p ≡ false
  pub derives : Bool
  pub allows : allowed_by derives W.catalog p ≡ true
  pub root : root_allowed_by derives W.catalog is_total p ≡ true

-- what a fault is worth: it is a worker's own; an overflow is one of the data; no rows fall and no packet is a stranger's
pub record IsTrueFault (W : RunModel) (p : Plan) (f : Fault) : Type 0 where
  pub own : IsOwn f
  pub overflow : (node : ℕ) → f ≡ Own Overflow node → IsReal W.db p
  pub order : IsOrderFault f → ⊥

-- the rows that the first worker kept are stream 0 of a run of the plan, and those of the plan without its exchanges, each as often, and the
-- same list where the root claims a total order
abbrev pub Answers : {O S : Type 0} → (S → Task) → RunModel → (is_total : Bool) → Plan → List (Worker O S) → RunState → Type 0
Answers {O} {S} task W is_total p ws run_state.Done =
    (d : Worker O S) (rows : List Row) → task (sender_of (slice_index_or ws 0 d)) ≡ keep rows → Runs W.db W.sizes (goes W) p (λ _. rows) × Delivers W.db is_total p rows
Answers task W is_total p ws run_state.Unfinished = Unit {0}
Answers task W is_total p ws (run_state.Failed f) = IsTrueFault W p f

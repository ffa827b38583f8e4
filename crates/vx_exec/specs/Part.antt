-- The nodes of a job's plan.
use Rattle.std.specs.Prelude.{ℕ, ◌≡◌, true, None}
use Rattle.vx_plan_nodes.specs.Known.{first_unknown}
use Rattle.vx_plan_nodes.specs.Numbering.{is_numbered}
use Rattle.vx_plan_nodes.specs.Outline.{Outline, plan_in}
use Rattle.vx_plan_nodes.specs.Outputs.{HasOutputs}
use Rattle.vx_plan_nodes.specs.Typed.{typed}
use Rattle.vx_plan_nodes.specs.TypedView.{scope, resolved_of}
use Rattle.vx_plan_nodes.specs.Under.{under, typed_plan_under}
use Rattle.vx_plan_nodes.specs.declared.functions.PlanFunctions.{Ghosts}
use Rattle.vx_check_rules.specs.Checked.{relations}
use Rattle.vx_exec_runs.specs.Runs.{unknown_in}
use Rattle.vx_exec.specs.Job.{types_at}
use Rattle.vx_exec.specs.LeafTypes.{LeavesFit}
use Rattle.vx_exec.specs.declared.job.Job.{Job}

-- each function that a job's plan names is one of the job's, for the types of its operands and with the answer that the plan says
abbrev pub HasKnown : {F : Type 0} → Ghosts F → Job F → Type 0
HasKnown given j = unknown_in (typed_plan_under (given.functions j.functions) (resolved_of j.plan.now)) ≡ None

-- a node of a job's plan: it has the types and the numbers that it has in the plan, and its functions are among the job's
pub record IsPartOf {F : Type 0} (given : Ghosts F) (j : Job F) (node : Outline) : Type 0 where
  pub nodes_typed : typed (scope j.plan.now) (plan_in node) ≡ true
  pub outputs : HasOutputs (relations j.plan.now) node
  pub numbered : (i : ℕ) × (is_numbered i (plan_in node) ≡ true)
  pub known : first_unknown (relations j.plan.now) (under (given.functions j.functions) (plan_in node)) ≡ None
  pub leaves : LeavesFit (types_at j) (relations j.plan.now) (plan_in node)

-- What a run works on, as plain data.
use Rattle.std.specs.Prelude.{ℕ, List}
use Rattle.vx_rows_values.specs.Values.{Row}
use Rattle.vx_rows_values.specs.declared.value.ColType.{ColType}
use Rattle.vx_plan_nodes.specs.Plan.{Plan}
use Rattle.vx_plan_nodes.specs.TypedView.{plan}
use Rattle.vx_plan_nodes.specs.Under.{under}
use Rattle.vx_plan_nodes.specs.declared.functions.PlanFunctions.{Ghosts}
use Rattle.vx_check_rules.specs.Checked.{relations}
use Rattle.vx_worker.specs.Fragment.{RunModel}
use Rattle.vx_exec_runs.specs.Sizes.{Sizes}
use Rattle.vx_exec.specs.Model.{run_model}
use Rattle.vx_exec.specs.LeafTypes.{leaf_types}
use Rattle.vx_exec.specs.declared.job.Job.{Job}

abbrev pub sizes_of : {F : Type 0} → Job F → Sizes
sizes_of j = record { worker_groups = j.layout.worker_groups.items; packet = j.packet; morsel = j.morsel }

-- the plan that it runs: the one that was typed, under the job's functions
abbrev pub job_plan : {F : Type 0} → Ghosts F → Job F → Plan
job_plan given j = under (given.functions j.functions) (plan j.plan.now)

-- the setting of its run
abbrev pub model_of : {F : Type 0} → (hash : List ℕ → Row → ℕ → ℕ) → Job F → RunModel
model_of hash j = run_model hash j.plan.now j.database.now (sizes_of j)

-- the types of the rows that the leaves of its plan read
abbrev pub types_at : {F : Type 0} → Job F → ℕ → List ColType
types_at j = leaf_types (relations j.plan.now) (plan j.plan.now)

-- What a run of a plan by workers promises, in whatever way they take turns.
use Rattle.std.specs.Prelude.{ℕ, ◌≡◌, ◌⊎◌, List, Result, Err, IfOk, IfErr}
use Rattle.vx_rows_values.specs.Values.{Row}
use Rattle.vx_catalog.specs.Database.{Database}
use Rattle.vx_plan_nodes.specs.Outline.{plan_in}
use Rattle.vx_plan_nodes.specs.Plan.{Plan}
use Rattle.vx_plan_nodes.specs.TypedView.{plan as whole_plan, resolved_of}
use Rattle.vx_plan_nodes.specs.Under.{Functions, under, typed_plan_under}
use Rattle.vx_plan_nodes.specs.Workers.{crew_size, worker_group_at}
use Rattle.vx_plan_nodes.specs.declared.typed_plan.TypedPlan.{TypedPlan}
use Rattle.vx_worker.specs.Fragment.{RunModel}
use Rattle.vx_exec.specs.Model.{run_model}
use Rattle.vx_exec.specs.Runs.{IsFirstReported}
use Rattle.vx_exec_steps.specs.Schedules.{IsBadStep}
use Rattle.vx_exec_runs.specs.Promise.{NothingElse, Reports, RunPromise}
use Rattle.vx_exec_runs.specs.Runs.{IsRunOf, IfDone, IsTrueOf, HasSizes, IsSetUp}
use Rattle.vx_exec_runs.specs.Sizes.{Sizes}
use Rattle.vx_exec_runs.specs.declared.outcome.RunOutcome.{RunOutcome}
use Rattle.vx_exec_setup.specs.Setup.{SetupView}
use Rattle.vx_exec_setup.specs.declared.fault.RunFault.{RunFault}
use Rattle.vx_exec_setup.specs.declared.fault.RunFault.TheVariants as fault

-- a fact of the setting of a run and of its plan under these functions, where the setup is right and the plan's functions are among them
abbrev pub WhereSet : (hash : List ℕ → Row → ℕ → ℕ) → Functions → TypedPlan → Database → SetupView → (RunModel → Plan → Type 0) → Type 0
WhereSet hash given p db setup P = (s : Sizes) → IsSetUp (typed_plan_under given (resolved_of p)) db setup s → P (run_model hash p db s) (under given (whole_plan p))

-- a fact of the setting and of the plan as it was typed, where the sizes are right, whatever functions there are
abbrev pub WhereSized : (hash : List ℕ → Row → ℕ → ℕ) → TypedPlan → Database → SetupView → (RunModel → Plan → Type 0) → Type 0
WhereSized hash p db setup P = (s : Sizes) → HasSizes (resolved_of p) db setup s → P (run_model hash p db s) (whole_plan p)

-- the promise of any run of a plan under these functions, and which of its workers' faults is reported
pub record CrewPromise (hash : List ℕ → Row → ℕ → ℕ) (given : Functions) (Other : Reports) (p : TypedPlan) (db : Database) (setup : SetupView) (result : Result RunOutcome RunFault) : Type 0 where
  pub run : RunPromise hash Other (typed_plan_under given (resolved_of p)) db setup result
  -- where the setup is right, a fault is that memory ran out, or that of the lowest-numbered worker that failed by itself in some run of the plan over the database
  -- whose workers all ended, or one that this way of running has besides
  pub first : WhereSet hash given p db setup (λ W q. IfErr result (λ e. IsFirstReported W q e ⊎ Other W.sizes q e))

-- the first step of the schedule that names no worker of the plan is refused, where the sizes are right
pub record RefusesStep (steps : List ℕ) (p : TypedPlan) (db : Database) (setup : SetupView) (result : Result RunOutcome RunFault) : Type 0 where
  pub index : ℕ
  pub refused : result ≡ Err (fault.BadStep index)
  pub sizes : Sizes
  pub set : HasSizes (resolved_of p) db setup sizes
  pub bad : IsBadStep steps (crew_size (worker_group_at sizes.worker_groups) (whole_plan p)) index

-- what a run by a schedule promises: that, or what any run does that has no faults of its own
abbrev pub SchedulePromise : (hash : List ℕ → Row → ℕ → ℕ) → Functions → (steps : List ℕ) → TypedPlan → Database → SetupView → Result RunOutcome RunFault → Type 0
SchedulePromise hash given steps p db setup result = RefusesStep steps p db setup result ⊎ CrewPromise hash given NothingElse p db setup result

-- the same of any run, once the setup has come to these sizes
pub record PromiseOnceSet (hash : List ℕ → Row → ℕ → ℕ) (given : Functions) (Other : Reports) (p : TypedPlan) (db : Database) (s : Sizes) (result : Result RunOutcome RunFault) : Type 0 where
  pub done : IfOk result (IfDone (IsRunOf hash (typed_plan_under given (resolved_of p)) db s.worker_groups))
  pub failed : IfErr result (λ e. IsTrueOf (typed_plan_under given (resolved_of p)) db e
      ⊎ Other (worker_group_at s.worker_groups) (plan_in (typed_plan_under given (resolved_of p)).root) e)
  pub first : IfErr result (λ e. IsFirstReported (run_model hash p db s) (under given (whole_plan p)) e
      ⊎ Other (worker_group_at s.worker_groups) (under given (whole_plan p)) e)

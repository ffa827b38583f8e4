-- What a run of a plan over a database promises, whatever runs it and in whatever way its workers take turns.
use Rattle.std.specs.Prelude.{ℕ, ◌≡◌, ◌⊎◌, List, Result, IfOk, IfErr}
use Rattle.vx_rows_values.specs.Values.{Row}
use Rattle.vx_catalog.specs.Database.{Database}
use Rattle.vx_plan_nodes.specs.Names.{TypedPlanView}
use Rattle.vx_plan_nodes.specs.Outline.{plan_in}
use Rattle.vx_plan_nodes.specs.Plan.{Plan}
use Rattle.vx_plan_nodes.specs.Workers.{worker_group_at}
use Rattle.vx_plan_nodes.specs.declared.typed_plan.TypedPlan.{TypedPlan}
use Rattle.vx_exec_runs.specs.Runs.{IsRunOf, IfDone, IsSetUp, RunFails}
use Rattle.vx_exec_runs.specs.Sizes.{Sizes}
use Rattle.vx_exec_runs.specs.declared.outcome.RunOutcome.{RunOutcome}
use Rattle.vx_exec_setup.specs.Setup.{SetupView}
use Rattle.vx_exec_setup.specs.declared.counts.WorkerCounts.{WorkerCounts}
use Rattle.vx_exec_setup.specs.declared.fault.RunFault.{RunFault}
use Rattle.vx_exec_setup.specs.declared.fault.RunFault.TheVariants as fault
use Rattle.vx_exec_setup.specs.declared.setting.Mode.{Mode}
use Rattle.vx_exec_setup.specs.declared.setting.Mode.TheVariants as mode

-- which faults may be reported of a plan, with this many workers for each size
abbrev pub Reports : Type 1
Reports = (sizes : ℕ → ℕ) → Plan → RunFault → Type 0

-- no faults but those of any run
abbrev pub NothingElse : Reports
NothingElse sizes p e = ⊥

-- what a run by threads reports besides the faults of any run: a thread was refused, and none was started
abbrev pub NoThreadStarted : Reports
NoThreadStarted sizes p e = e ≡ fault.NoThread

-- the faults that a run in this mode may report besides those of any run
abbrev pub MayReport : Mode → Reports
MayReport mode.Rounds = NothingElse
MayReport mode.Threads = NoThreadStarted

-- what a run of a plan promises, whatever functions the plan has, where a hash route sends keys so. `Other` are the faults that this way of running has
-- besides those of any run: in rounds none, by a schedule that a step names no worker, by threads that a thread was refused
pub record RunPromise (hash : List ℕ → Row → ℕ → ℕ) (Other : Reports) (p : TypedPlanView) (db : Database) (setup : SetupView) (result : Result RunOutcome RunFault) : Type 0 where
  -- rows that come back are those of a run of the plan over the database, with the workers that the setup asks for, which is right
  pub done : IfOk result (IfDone (λ rows. (s : Sizes) × IsSetUp p db setup s × IsRunOf hash p db s.worker_groups rows))
  -- without a fault, the database has the plan's catalog, the setup is right, and each function that the plan names is there
  pub set : IfOk result (λ _. (s : Sizes) × IsSetUp p db setup s)
  -- a fault is the first of these: the database has another catalog; what is wrong with the setup; the first node that names a function which is not there.
  -- Behind them: memory ran out; an overflow that the data have; one that this way of running has besides
  pub refused : IfErr result (λ e. RunFails p db setup e ⊎ ((s : Sizes) × IsSetUp p db setup s × Other (worker_group_at s.worker_groups) (plan_in p.root) e))

-- what an engine says of the numbers that the workers of a run count: of a run in this mode, of this plan over this database, with these sizes, that came to this
abbrev pub Counting : Type 1
Counting = Mode → TypedPlan → Database → Sizes → Result RunOutcome RunFault → List WorkerCounts → Type 0

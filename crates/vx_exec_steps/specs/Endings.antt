-- How all workers of a run ended, by their numbers, and which of their faults the run reports.
use Rattle.std.specs.Prelude.{ℕ, ◌≡◌, ◌<◌}
use Rattle.vx_plan_nodes.specs.Plan.{Plan}
use Rattle.vx_ops.specs.declared.fault.Fault.{Fault}
use Rattle.vx_exchange_ends.specs.Tasks.{Task}
use Rattle.vx_worker.specs.Fragment.{RunModel}
use Rattle.vx_worker.specs.Worker.{Role}
use Rattle.vx_worker.specs.Trace.{Trace, Fate, failed}
use Rattle.vx_exec_steps.specs.Roles.{IsRoot, RolesBelow, IsLinked, AllEnded}
use Rattle.vx_plan_nodes.specs.Workers.{crew_size}
use Rattle.vx_exec_steps.specs.Verdicts.{IsOwn}
use Rattle.vx_exec_steps.specs.declared.verdict.RunState.{RunState}
use Rattle.vx_exec_steps.specs.declared.verdict.RunState.TheVariants as run_state

-- all workers of a plan's run ended with these fates: each has the role that the plan gives its number, and a trace that is honest of it;
-- and what the traces drew and sent is linked as the plan says
pub record EndedRun (S : RunModel) (p : Plan) (fates : ℕ → Fate) : Type 0 where
  pub roles : ℕ → Role
  pub tasks : ℕ → Task
  pub traces : ℕ → Trace
  pub root : IsRoot S p (roles 0)
  pub below : RolesBelow S roles p 1
  pub each : AllEnded S roles tasks fates traces (crew_size S.sizes p)
  pub linked : IsLinked S traces p 0 1

-- of so many workers with these fates, the lowest-numbered that failed by itself has this fault
pub record IsFirstOwn (fates : ℕ → Fate) (total : ℕ) (f : Fault) : Type 0 where
  pub own : IsOwn f
  pub number : ℕ
  pub within : number < total
  pub here : fates number ≡ failed f
  pub first : (k : ℕ) (g : Fault) → k < number → IsOwn g → fates k ≡ failed g → ⊥

-- all workers of some run of the plan ended, and the lowest-numbered that failed by itself has this fault
pub record FailsFirst (S : RunModel) (p : Plan) (f : Fault) : Type 0 where
  pub fates : ℕ → Fate
  pub ended : EndedRun S p fates
  pub first : IsFirstOwn fates (crew_size S.sizes p) f

-- a verdict's fault is such a one
abbrev pub ReportsFirst : RunModel → Plan → RunState → Type 0
ReportsFirst S p run_state.Done = Unit {0}
ReportsFirst S p run_state.Unfinished = Unit {0}
ReportsFirst S p (run_state.Failed f) = FailsFirst S p f

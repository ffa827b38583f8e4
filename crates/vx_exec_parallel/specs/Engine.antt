-- What the workers of a run by this repository's engine counted.
use Rattle.std.specs.Prelude.{List, Result}
use Rattle.vx_catalog.specs.Database.{Database}
use Rattle.vx_plan_nodes.specs.ByteRouter.{byte_route}
use Rattle.vx_plan_nodes.specs.TypedView.{plan as whole_plan}
use Rattle.vx_plan_nodes.specs.declared.functions.PlanFunctions.{Ghosts}
use Rattle.vx_plan_nodes.specs.declared.typed_plan.TypedPlan.{TypedPlan}
use Rattle.vx_exec_runs.specs.Sizes.{Sizes}
use Rattle.vx_exec_runs.specs.declared.outcome.RunOutcome.{RunOutcome}
use Rattle.vx_exec_runs.specs.declared.runs.TheConstants.{MAX_ROUNDS}
use Rattle.vx_exec_setup.specs.declared.counts.WorkerCounts.{WorkerCounts}
use Rattle.vx_exec_setup.specs.declared.fault.RunFault.{RunFault}
use Rattle.vx_exec_setup.specs.declared.setting.Mode.{Mode}
use Rattle.vx_exec_setup.specs.declared.setting.Mode.TheVariants as mode
use Rattle.vx_exec.specs.Model.{run_model}
use Rattle.vx_exec.specs.Runs.{CountedInRounds}
use Rattle.vx_exec_parallel.specs.Parallel.{CountedByThreads}

-- the workers of a run in this mode by such functions, which came to this, counted this in the end; by rounds these were at most `MAX_ROUNDS`
abbrev pub CountedIn : {F : Type 0} → Ghosts F → Mode → TypedPlan → Database → Sizes → Result RunOutcome RunFault → List WorkerCounts → Type 0
CountedIn given mode.Rounds p db s result ws = CountedInRounds given byte_route (run_model byte_route p db s) (whole_plan p) MAX_ROUNDS result ws
CountedIn given mode.Threads p db s result ws = CountedByThreads given byte_route (run_model byte_route p db s) (whole_plan p) result ws

use Rattle.vx_exec_laws.proofs.FailedRuns.{failed-run}
use Rattle.vx_exec_laws.proofs.runs.failed_run_is_met.Goals as goal

pub returns : goal.returns
returns c = failed-run

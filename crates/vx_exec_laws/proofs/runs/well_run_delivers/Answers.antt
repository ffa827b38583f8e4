use Rattle.vx_exec_laws.proofs.WellRun.{well-run-delivers}
use Rattle.vx_exec_laws.proofs.runs.well_run_delivers.Goals as goal

pub returns : goal.returns
returns c = well-run-delivers

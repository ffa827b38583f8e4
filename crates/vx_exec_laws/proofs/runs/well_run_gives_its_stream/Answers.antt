use Rattle.vx_exec_laws.proofs.WellRun.{well-run-gives}
use Rattle.vx_exec_laws.proofs.runs.well_run_gives_its_stream.Goals as goal

pub returns : goal.returns
returns c = well-run-gives

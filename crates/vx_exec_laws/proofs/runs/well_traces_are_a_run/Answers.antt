use Rattle.vx_exec_laws.proofs.WellRun.{well-runs}
use Rattle.vx_exec_laws.proofs.runs.well_traces_are_a_run.Goals as goal

pub returns : goal.returns
returns c = well-runs

use Rattle.vx_exec_laws.proofs.Layouts.{flat-is-run}
use Rattle.vx_exec_laws.proofs.runs.flat_run_is_a_run.Goals as goal

pub returns : goal.returns
returns c = flat-is-run

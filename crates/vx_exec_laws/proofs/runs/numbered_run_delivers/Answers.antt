use Rattle.vx_exec_laws.proofs.EitherTable.{numbered-run-delivers}
use Rattle.vx_exec_laws.proofs.runs.numbered_run_delivers.Goals as goal

pub returns : goal.returns
returns c = numbered-run-delivers

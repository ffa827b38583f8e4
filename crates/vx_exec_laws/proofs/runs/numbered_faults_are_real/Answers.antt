use Rattle.vx_exec_laws.proofs.EitherTable.{numbered-faults-are-real}
use Rattle.vx_exec_laws.proofs.runs.numbered_faults_are_real.Goals as goal

pub returns : goal.returns
returns c = numbered-faults-are-real

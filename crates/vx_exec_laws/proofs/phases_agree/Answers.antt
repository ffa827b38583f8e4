use Rattle.vx_exec_laws.proofs.PhaseFacts.{phases-agree}
use Rattle.vx_exec_laws.proofs.phases_agree.Goals as goal

pub returns : goal.returns
returns c = phases-agree

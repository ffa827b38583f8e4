use Rattle.vx_check_rules.proofs.Refusals.{refusal-decides}
use Rattle.vx_exec_laws.proofs.refusal_decides.Goals as goal

pub returns : goal.returns
returns c = refusal-decides

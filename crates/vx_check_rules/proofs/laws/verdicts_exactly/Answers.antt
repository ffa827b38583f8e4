use Rattle.vx_check_rules.proofs.Exact.{verdicts-exactly}
use Rattle.vx_check_rules.proofs.laws.verdicts_exactly.Goals as goal

pub returns : goal.returns
returns c = verdicts-exactly

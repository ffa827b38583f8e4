use Rattle.vx_check_causes.proofs.OnceFacts.{once}
use Rattle.vx_check_causes.proofs.laws.each_failure_has_one_line.Goals as goal

pub returns : goal.returns
returns c = once

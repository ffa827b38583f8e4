use Rattle.vx_check_rules.proofs.Carrying.{copies-back}
use Rattle.vx_check_rules.proofs.laws.copies_back.Goals as goal

pub returns : goal.returns
returns c = copies-back

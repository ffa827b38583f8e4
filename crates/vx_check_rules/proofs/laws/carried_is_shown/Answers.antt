use Rattle.vx_check_rules.proofs.Carrying.{carried-is-shown}
use Rattle.vx_check_rules.proofs.laws.carried_is_shown.Goals as goal

pub returns : goal.returns
returns c = carried-is-shown

use Rattle.vx_check_rules.proofs.Carrying.{parts-carried}
use Rattle.vx_check_rules.proofs.laws.parts_carried.Goals as goal

pub returns : goal.returns
returns c = parts-carried

use Rattle.vx_check_rules.proofs.Carrying.{keys-carried}
use Rattle.vx_check_rules.proofs.laws.keys_carried.Goals as goal

pub returns : goal.returns
returns c = keys-carried

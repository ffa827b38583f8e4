use Rattle.vx_check_rules.proofs.Carrying.{orders-carried}
use Rattle.vx_check_rules.proofs.laws.orders_carried.Goals as goal

pub returns : goal.returns
returns c = orders-carried

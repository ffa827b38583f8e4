use Rattle.vx_check_rules.proofs.Exact.{orders-exactly}
use Rattle.vx_check_rules.proofs.laws.orders_exactly.Goals as goal

pub returns : goal.returns
returns c = orders-exactly

use Rattle.std.proofs.Common.{arith, refl}
use Rattle.vx_exchange_receivers.proofs.InOrders.{in-fresh}
use Rattle.vx_exchange_receivers.proofs.in_order.InOrderReceiver.new.Goals as goal

pub returns-clause-stands : goal.returns-clause-stands
returns-clause-stands c = let some = c.requires.some in in-fresh _ refl (omega (arith, some))

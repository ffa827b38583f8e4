use Rattle.vx_exchange.proofs.InOrderFacts.{in-order-law}
use Rattle.vx_exchange.proofs.laws.in_order_receiver_stands.Goals as goal

pub returns : goal.returns
returns c = in-order-law

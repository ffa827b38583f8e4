use Rattle.vx_exchange_ends.proofs.Closings.{last-ships}
use Rattle.vx_exchange_ends.proofs.laws.last_ships.Goals as goal

pub returns : goal.returns
returns c = last-ships

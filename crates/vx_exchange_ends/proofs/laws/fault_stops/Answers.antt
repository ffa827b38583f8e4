use Rattle.vx_exchange_ends.proofs.Parts.{fault-stops}
use Rattle.vx_exchange_ends.proofs.laws.fault_stops.Goals as goal

pub returns : goal.returns
returns c = fault-stops

use Rattle.vx_exchange_ends.proofs.Closings.{fault-cuts-short}
use Rattle.vx_exchange_ends.proofs.laws.fault_cuts_short.Goals as goal

pub returns : goal.returns
returns c = fault-cuts-short

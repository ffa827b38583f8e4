use Rattle.vx_exchange_ends.proofs.Parts.{begun-without-last}
use Rattle.vx_exchange_ends.proofs.laws.begun_stays_without_last.Goals as goal

pub returns : goal.returns
returns c = begun-without-last

use Rattle.vx_exchange_ends.proofs.Parts.{without-last-packet}
use Rattle.vx_exchange_ends.proofs.laws.part_stays_without_last.Goals as goal

pub returns : goal.returns
returns c = without-last-packet

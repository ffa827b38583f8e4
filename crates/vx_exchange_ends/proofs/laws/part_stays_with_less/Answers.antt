use Rattle.vx_exchange_ends.proofs.Parts.{part-shipped-less}
use Rattle.vx_exchange_ends.proofs.laws.part_stays_with_less.Goals as goal

pub returns : goal.returns
returns c = part-shipped-less

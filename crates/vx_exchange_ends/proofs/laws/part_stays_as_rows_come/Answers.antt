use Rattle.vx_exchange_ends.proofs.Parts.{part-shipped-more}
use Rattle.vx_exchange_ends.proofs.laws.part_stays_as_rows_come.Goals as goal

pub returns : goal.returns
returns c = part-shipped-more

use Rattle.vx_exchange_ends.proofs.Parts.{begun-more}
use Rattle.vx_exchange_ends.proofs.laws.begun_stays_as_rows_come.Goals as goal

pub returns : goal.returns
returns c = begun-more

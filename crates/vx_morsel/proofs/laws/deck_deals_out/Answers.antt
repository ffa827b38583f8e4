use Rattle.vx_morsel.proofs.Dealings.{deck-deals-out}
use Rattle.vx_morsel.proofs.laws.deck_deals_out.Goals as goal

pub returns : goal.returns
returns c = deck-deals-out

use Rattle.vx_exchange.proofs.Senders.{round-robin-law}
use Rattle.vx_exchange.proofs.laws.round_robins_take_turns.Goals as goal

pub returns : goal.returns
returns c = round-robin-law

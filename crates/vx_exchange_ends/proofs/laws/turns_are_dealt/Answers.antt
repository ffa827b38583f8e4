use Rattle.vx_exchange_ends.proofs.Turns.{turns-are-dealt}
use Rattle.vx_exchange_ends.proofs.laws.turns_are_dealt.Goals as goal

pub returns : goal.returns
returns c = turns-are-dealt

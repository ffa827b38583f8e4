use Rattle.vx_check_keeping.proofs.TellsItself.{tells-itself}
use Rattle.vx_check_keeping.proofs.tells_itself.Goals as goal

pub returns : goal.returns
returns c = λ catalog p. tells-itself catalog p

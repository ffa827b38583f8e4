use Rattle.vx_ops.proofs.Strangers.{stranger-law}
use Rattle.vx_ops.proofs.laws.strangers_are_refused.Goals as goal

pub returns : goal.returns
returns c = stranger-law

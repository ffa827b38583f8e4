use Rattle.vx_exec_laws.proofs.Frame.{no-overflow}
use Rattle.vx_exec_laws.proofs.overflow_is_real.Goals as goal

pub returns : goal.returns
returns c = no-overflow

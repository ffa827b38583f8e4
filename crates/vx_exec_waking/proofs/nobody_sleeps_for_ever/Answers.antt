use Rattle.vx_exec_waking.proofs.Resting.{nobody-is-left}
use Rattle.vx_exec_waking.proofs.nobody_sleeps_for_ever.Goals as goal

pub returns : goal.returns
returns c = nobody-is-left

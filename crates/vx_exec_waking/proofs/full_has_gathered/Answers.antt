use Rattle.vx_exec_waking.proofs.Resting.{full-has-gathered}
use Rattle.vx_exec_waking.proofs.full_has_gathered.Goals as goal

pub returns : goal.returns
returns c = full-has-gathered

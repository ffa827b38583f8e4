use Rattle.vx_check_options.proofs.ClaimedKeeps.{claimed-keeps}
use Rattle.vx_check_options.proofs.claimed_keeps.Goals as goal

pub returns : goal.returns
returns c = claimed-keeps

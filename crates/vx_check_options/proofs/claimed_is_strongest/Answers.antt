use Rattle.vx_check_options.proofs.ClaimedIsStrongest.{claimed-is-strongest}
use Rattle.vx_check_options.proofs.claimed_is_strongest.Goals as goal

pub returns : goal.returns
returns c = claimed-is-strongest

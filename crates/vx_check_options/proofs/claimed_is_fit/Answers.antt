use Rattle.vx_check_options.proofs.ClaimedIsFit.{claimed-is-fit}
use Rattle.vx_check_options.proofs.claimed_is_fit.Goals as goal

pub returns : goal.returns
returns c = claimed-is-fit

use Rattle.vx_check_options.proofs.ClaimedIsTyped.{claimed-is-typed}
use Rattle.vx_check_options.proofs.claimed_is_typed.Goals as goal

pub returns : goal.returns
returns c = claimed-is-typed

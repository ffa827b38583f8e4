use Rattle.vx_check_shown.proofs.KeyedPlans.{keyed-is-good}
use Rattle.vx_check_shown.proofs.found_laws.keyed_is_good.Goals as goal

pub returns : goal.returns
returns c = keyed-is-good

use Rattle.vx_check_shown.proofs.FoundNodes.{found-good}
use Rattle.vx_check_shown.proofs.found_laws.found_is_good.Goals as goal

pub returns : goal.returns
returns c = found-good

use Rattle.vx_check_annotate.proofs.FirstRows.{found-is-accepted}
use Rattle.vx_check_annotate.proofs.laws.found_is_accepted.Goals as goal

pub returns : goal.returns
returns c = found-is-accepted

-- By induction over both plans.
use Rattle.vx_check_keeping.proofs.MoreDetermined.{more-determined}
use Rattle.vx_check_keeping.proofs.more_determined.Goals as goal

pub returns : goal.returns
returns c = more-determined

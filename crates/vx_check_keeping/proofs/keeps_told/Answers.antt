-- By induction over both plans.
use Rattle.vx_check_keeping.proofs.Keeps.{keeps-told}
use Rattle.vx_check_keeping.proofs.keeps_told.Goals as goal

pub returns : goal.returns
returns c = keeps-told

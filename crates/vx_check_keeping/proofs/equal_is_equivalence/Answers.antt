-- By induction over the plan.
use Rattle.vx_check_keeping.proofs.EqualLaws.{equal-is}
use Rattle.vx_check_keeping.proofs.equal_is_equivalence.Goals as goal

pub returns : goal.returns
returns c = equal-is

-- By induction over both plans.
use Rattle.vx_check_keeping.proofs.SameFacts.{same-facts}
use Rattle.vx_check_keeping.proofs.same_facts.Goals as goal

pub returns : goal.returns
returns c = same-facts

use Rattle.vx_plan_facts.proofs.RowFacts.{binary-meets}
use Rattle.vx_plan_facts.proofs.laws.binary_meets.Goals as goal

pub returns : goal.returns
returns c = binary-meets

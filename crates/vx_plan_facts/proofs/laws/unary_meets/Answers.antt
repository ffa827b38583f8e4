use Rattle.vx_plan_facts.proofs.RowFacts.{unary-meets}
use Rattle.vx_plan_facts.proofs.laws.unary_meets.Goals as goal

pub returns : goal.returns
returns c = unary-meets

use Rattle.vx_plan_nodes.proofs.UnderFacts.{phases-stay}
use Rattle.vx_plan_nodes.proofs.laws.phases_stay.Goals as goal

pub returns : goal.returns
returns c = phases-stay

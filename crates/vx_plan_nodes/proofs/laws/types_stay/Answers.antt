use Rattle.vx_plan_nodes.proofs.UnderFacts.{types-stay}
use Rattle.vx_plan_nodes.proofs.laws.types_stay.Goals as goal

pub returns : goal.returns
returns c = types-stay

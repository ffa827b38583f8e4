use Rattle.vx_plan_nodes.proofs.UnderFacts.{nodes-stay}
use Rattle.vx_plan_nodes.proofs.laws.nodes_stay.Goals as goal

pub returns : goal.returns
returns c = nodes-stay

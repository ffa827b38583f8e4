use Rattle.vx_plan_nodes.proofs.UnderFacts.{descriptions-stay}
use Rattle.vx_plan_nodes.proofs.laws.descriptions_stay.Goals as goal

pub returns : goal.returns
returns c = descriptions-stay

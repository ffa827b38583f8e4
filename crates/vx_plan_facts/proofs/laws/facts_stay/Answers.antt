use Rattle.vx_plan_facts.proofs.UnderFacts.{facts-stay}
use Rattle.vx_plan_facts.proofs.laws.facts_stay.Goals as goal

pub returns : goal.returns
returns c = facts-stay

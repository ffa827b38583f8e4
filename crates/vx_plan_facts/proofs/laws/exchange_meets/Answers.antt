use Rattle.vx_plan_facts.proofs.RowFacts.{exchange-meets}
use Rattle.vx_plan_facts.proofs.laws.exchange_meets.Goals as goal

pub returns : goal.returns
returns c = exchange-meets

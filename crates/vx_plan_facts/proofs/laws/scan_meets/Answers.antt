use Rattle.vx_plan_facts.proofs.RowFacts.{scan-meets}
use Rattle.vx_plan_facts.proofs.laws.scan_meets.Goals as goal

pub returns : goal.returns
returns c = scan-meets

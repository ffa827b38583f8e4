use Rattle.vx_plan_facts.proofs.RowFacts.{serial-meets}
use Rattle.vx_plan_facts.proofs.laws.serial_meets.Goals as goal

pub returns : goal.returns
returns c = serial-meets

use Rattle.vx_plan_facts.proofs.Meaning.{determined-holds}
use Rattle.vx_plan_facts.proofs.determined_laws.determined_holds.Goals as goal

pub returns : goal.returns
returns c = determined-holds

use Rattle.vx_plan_facts.proofs.Listed.{determined-in-listed}
use Rattle.vx_plan_facts.proofs.determined_laws.determined_in_listed.Goals as goal

pub returns : goal.returns
returns c = determined-in-listed

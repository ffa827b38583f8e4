use Rattle.vx_plan_facts.proofs.Least.{least-sets}
use Rattle.vx_plan_facts.proofs.determined_laws.least_sets.Goals as goal

pub returns : goal.returns
returns c = least-sets

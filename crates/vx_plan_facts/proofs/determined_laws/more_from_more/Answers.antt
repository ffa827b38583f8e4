use Rattle.vx_plan_facts.proofs.Least.{more-from-more}
use Rattle.vx_plan_facts.proofs.determined_laws.more_from_more.Goals as goal

pub returns : goal.returns
returns c = more-from-more

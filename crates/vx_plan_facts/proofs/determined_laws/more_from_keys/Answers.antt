use Rattle.vx_plan_facts.proofs.MoreKeys.{more-from-keys}
use Rattle.vx_plan_facts.proofs.determined_laws.more_from_keys.Goals as goal

pub returns : goal.returns
returns c = more-from-keys

use Rattle.vx_plan_facts.proofs.FollowFacts.{key-follows}
use Rattle.vx_plan_facts.proofs.follow_laws.keys_follow.Goals as goal

pub returns : goal.returns
returns c = key-follows

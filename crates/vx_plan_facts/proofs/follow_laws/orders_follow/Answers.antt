use Rattle.vx_plan_facts.proofs.FollowFacts.{order-follows}
use Rattle.vx_plan_facts.proofs.follow_laws.orders_follow.Goals as goal

pub returns : goal.returns
returns c = order-follows

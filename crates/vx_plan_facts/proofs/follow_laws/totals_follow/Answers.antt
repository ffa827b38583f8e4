use Rattle.vx_plan_facts.proofs.FollowFacts.{total-follows}
use Rattle.vx_plan_facts.proofs.follow_laws.totals_follow.Goals as goal

pub returns : goal.returns
returns c = total-follows

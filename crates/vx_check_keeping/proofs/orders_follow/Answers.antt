use Rattle.vx_check_keeping.proofs.MoreFollows.{orders-follow}
use Rattle.vx_check_keeping.proofs.orders_follow.Goals as goal

pub returns : goal.returns
returns c = orders-follow

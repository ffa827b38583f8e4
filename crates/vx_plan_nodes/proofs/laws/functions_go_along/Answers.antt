use Rattle.vx_plan_nodes.proofs.UnderErased.{functions-go-along}
use Rattle.vx_plan_nodes.proofs.laws.functions_go_along.Goals as goal

pub returns : goal.returns
returns c = functions-go-along

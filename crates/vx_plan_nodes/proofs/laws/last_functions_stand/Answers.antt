use Rattle.vx_plan_nodes.proofs.UnderErased.{last-functions-stand}
use Rattle.vx_plan_nodes.proofs.laws.last_functions_stand.Goals as goal

pub returns : goal.returns
returns c = last-functions-stand

use Rattle.std.proofs.Common.{rules}
use Rattle.vx_plan_nodes.specs.Functions.{Functions}
use Rattle.vx_plan_nodes.specs.Outline.{plan_of}
use Rattle.vx_plan_nodes.proofs.UnderFacts.{types-under}
use Rattle.vx_plan_nodes.proofs.known.+first_unknown.Goals as goal

pub returns-in_ok-is_known-in-Unary : goal.returns-in_ok-is_known-in-Unary
returns-in_ok-is_known-in-Unary g t c catalog h =
    let given : Functions = g.F.PlanFunctions.functions c.args.functions.now in
    let same = types-under given catalog (plan_of c.in-Unary.input.value) in
    search rules

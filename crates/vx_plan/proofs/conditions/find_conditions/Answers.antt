use Rattle.vx_plan.specs.Resolve.{find_conditions}
use Rattle.vx_plan.proofs.WalkFacts.{walk_fails}
use Rattle.vx_plan.proofs.conditions.find_conditions.Goals as goal

pub returns-in_err-one : goal.returns-in_err-one
unfolding find_conditions
returns-in_err-one c = walk_fails _ _ _ _ _ _ c.loop-condition.invariant c.loop-condition-test.true c.condition-item.is c.in_err-one.ensures c.from_residual.ensures.1

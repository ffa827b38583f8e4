use Rattle.vx_plan.specs.Resolve.{find_aggregates}
use Rattle.vx_plan.proofs.WalkFacts.{walk_fails}
use Rattle.vx_plan.proofs.unary_nodes.find_aggregates.Goals as goal

pub returns-in_err-one : goal.returns-in_err-one
unfolding find_aggregates
returns-in_err-one c = walk_fails _ _ _ _ _ _ c.loop-aggregate.invariant c.loop-aggregate-test.true c.aggregate-item.is c.in_err-one.ensures c.from_residual.ensures.1

use Rattle.vx_plan.specs.Resolve.{find_filters}
use Rattle.vx_plan.proofs.WalkFacts.{walk_fails}
use Rattle.vx_plan.proofs.conditions.find_filters.Goals as goal

pub returns-in_err-one : goal.returns-in_err-one
unfolding find_filters
returns-in_err-one c = walk_fails _ _ _ _ _ _ c.loop-filter.invariant c.loop-filter-test.true c.filter-item.is c.in_err-one.ensures c.from_residual.ensures.1

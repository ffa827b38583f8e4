use Rattle.vx_plan.specs.Resolve.{find_pairs}
use Rattle.vx_plan.proofs.WalkFacts.{walk_fails}
use Rattle.vx_plan.proofs.binary_nodes.find_pairs.Goals as goal

pub returns-in_err-one : goal.returns-in_err-one
unfolding find_pairs
returns-in_err-one c = walk_fails _ _ _ _ _ _ c.loop-pair.invariant c.loop-pair-test.true c.pair-item.is c.in_err-one.ensures c.from_residual.ensures.1

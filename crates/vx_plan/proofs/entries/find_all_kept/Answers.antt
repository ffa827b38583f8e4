use Rattle.vx_plan.specs.Resolve.{find_all_kept}
use Rattle.vx_plan.proofs.WalkFacts.{walk_fails}
use Rattle.vx_plan.proofs.entries.find_all_kept.Goals as goal

pub returns-in_err-one : goal.returns-in_err-one
unfolding find_all_kept
returns-in_err-one c = walk_fails _ _ _ _ _ _ c.loop-output.invariant c.loop-output-test.true c.output-item.is c.in_err-one.ensures c.from_residual.ensures.1

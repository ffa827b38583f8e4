use Rattle.vx_plan.specs.Resolve.{find_entries}
use Rattle.vx_plan.proofs.WalkFacts.{walk_fails}
use Rattle.vx_plan.proofs.entries.find_entries.Goals as goal

pub returns-in_err-one : goal.returns-in_err-one
unfolding find_entries
returns-in_err-one c = walk_fails _ _ _ _ _ _ c.loop-entry.invariant c.loop-entry-test.true c.entry-item.is c.in_err-one.ensures c.from_residual.ensures.1

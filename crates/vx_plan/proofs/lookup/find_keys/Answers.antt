use Rattle.vx_plan.specs.Lookup.{find_keys}
use Rattle.vx_plan.proofs.WalkFacts.{walk_fails}
use Rattle.vx_plan.proofs.lookup.find_keys.Goals as goal

pub returns-in_err-columns : goal.returns-in_err-columns
unfolding find_keys
returns-in_err-columns c = walk_fails _ _ _ _ _ _ c.loop-key.invariant c.loop-key-test.true c.key-item.is (rw c.as_slice.ensures.value at c.in_err-columns.ensures) c.from_residual.ensures.1

use Rattle.vx_plan.proofs.WalkFacts.{keys_fail}
use Rattle.vx_plan.proofs.lookup.test_distinct_keys.Goals as goal

pub returns-in_err-test_distinct : goal.returns-in_err-test_distinct
returns-in_err-test_distinct c = keys_fail _ _ _ _ _ c.loop-key.invariant c.loop-key-test.true c.key-item.is (rw c.as_slice.ensures.value at c.in_err-test_distinct.ensures) c.from_residual.ensures.1

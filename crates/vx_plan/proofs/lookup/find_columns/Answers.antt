use Rattle.vx_plan.specs.Lookup.{find_columns}
use Rattle.vx_plan.proofs.WalkFacts.{walk_fails}
use Rattle.vx_plan.proofs.lookup.find_columns.Goals as goal

pub returns-in_err-column : goal.returns-in_err-column
unfolding find_columns
returns-in_err-column c = walk_fails _ _ _ _ _ _ c.loop-name.invariant c.loop-name-test.true c.name-item.is (rw c.as_str.ensures.value at c.in_err-column.ensures) c.from_residual.ensures.1

use Rattle.vx_plan_drawing.proofs.describe.push_binary.Goals as goal

pub returns-in-MergeJoin : goal.returns-in-MergeJoin
returns-in-MergeJoin c = rw c.in-MergeJoin.is (rw c.as_slice-in-MergeJoin.ensures.value at c.push_join-in-MergeJoin.ensures)

pub returns-in-SemiJoin : goal.returns-in-SemiJoin
returns-in-SemiJoin c = rw c.in-SemiJoin.is (rw (c.as_slice-in-SemiJoin.ensures.value, c.as_slice-in-SemiJoin-2.ensures.value) at c.push_semi_join.ensures)

pub returns-in-AntiJoin : goal.returns-in-AntiJoin
returns-in-AntiJoin c = rw c.in-AntiJoin.is (rw (c.as_slice-in-AntiJoin.ensures.value, c.as_slice-in-AntiJoin-2.ensures.value) at c.push_semi_join-in-AntiJoin.ensures)

use Rattle.vx_plan_drawing.proofs.describe.push_unary.Goals as goal

pub returns-in-PartialGroup : goal.returns-in-PartialGroup
returns-in-PartialGroup c =
    rw c.in-PartialGroup.is (rw (c.as_slice-in-PartialGroup.ensures.value, c.as_slice-in-PartialGroup-2.ensures.value) at c.push_group-in-PartialGroup.ensures)

pub returns-in-FinalGroup : goal.returns-in-FinalGroup
returns-in-FinalGroup c = rw c.in-FinalGroup.is c.push_final.ensures

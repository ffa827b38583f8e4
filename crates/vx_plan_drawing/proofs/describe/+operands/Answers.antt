use Rattle.vx_plan_drawing.proofs.OperandTexts.{call-text}
use Rattle.vx_plan_drawing.proofs.describe.+operands.Goals as goal

pub push_operand-returns-in-Call : goal.push_operand-returns-in-Call
push_operand-returns-in-Call n c =
    rw c.in-Call.is (rw (call-text c.in-Call.name c.in-Call.field-1 c.in-Call.operands) (rw (c.as_str-in-Call.ensures.value, c.as_slice.ensures.value) at c.push_call.ensures))

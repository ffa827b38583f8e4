use Rattle.vx_check.proofs.CallFacts.{call-text}
use Rattle.vx_check.proofs.describe.+expressions.Goals as goal

pub push_expression-returns-in-Call : goal.push_expression-returns-in-Call
push_expression-returns-in-Call n c =
    rw c.in-Call.is (rw (call-text c.args.names.now c.in-Call.name c.in-Call.field-1 c.in-Call.operands) (rw (c.as_str.ensures.value, c.as_slice.ensures.value) at c.push_call.ensures))

use Rattle.vx_plan_json.proofs.OperandFacts.{call_members}
use Rattle.vx_plan_json.proofs.json.put_operand.Goals as goal

pub returns-in_ok-list-in-Call : goal.returns-in_ok-list-in-Call
returns-in_ok-list-in-Call c =
    let list = rw c.as_slice.ensures.value at c.in_ok-list-in-Call.ensures in
    let same = call_members c.in-Call.name c.in-Call.answer c.in-Call.operands c.in_ok-list-in-Call.list.items list in
    let put = rw (c.as_str-in-Call.ensures.value, same) at c.put_typed.ensures in
    rw c.in-Call.is put

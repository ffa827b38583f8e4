use Rattle.std.proofs.Common.{◌≡◌, ◌∙◌, map}
use Rattle.std.proofs.lemmas.Result.{IfOk-weaker}
use Rattle.serde_json.specs.Data.{object, no_members}
use Rattle.serde_json.specs.View.{view, items_of}
use Rattle.vx_plan_json.specs.Document.{operand_form}
use Rattle.vx_plan_json.specs.Written.{with_typed, operand_json}
use Rattle.vx_plan_json.proofs.OperandFacts.{call_json}
use Rattle.vx_plan_json.proofs.json.+operands.Goals as goal

pub operand_json-returns-in_ok-list-in-Call : goal.operand_json-returns-in_ok-list-in-Call
operand_json-returns-in_ok-list-in-Call t c =
    let list = rw c.as_slice.ensures.value at c.in_ok-list-in-Call.ensures in
    let same = call_json c.in-Call.name c.in-Call.answer c.in-Call.operands c.in_ok-list-in-Call.list.items list in
    let written = rw (c.as_str-in-Call.ensures.value, same) at c.call_json.ensures in
    rw c.in-Call.is written

use Rattle.std.proofs.Common.{rules, ◌≡◌, ◌∙◌, ap}
use Rattle.serde_json.proofs.Views.{view-Object}
use Rattle.serde_json.specs.Data.{object}
use Rattle.vx_plan_json.proofs.OperandFacts.{answered_json}
use Rattle.vx_plan_json.proofs.json.answer_json.Goals as goal

pub returns : goal.returns
returns c =
    let list = rw c.as_slice.ensures.value at c.in_ok-list.ensures in
    let same = answered_json c.in-Call.name c.in-Call.field-1 c.in-Call.operands c.in_ok-list.list.items list in
    let members = rw (c.as_str.ensures.value, c.new-members.ensures.empty) at c.in_ok-put_applied.ensures in
    rw c.in-Call.is (view-Object c.put_applied.new.members ∙ (ap object members ∙ same))

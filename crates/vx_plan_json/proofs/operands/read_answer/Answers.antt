use Rattle.std.proofs.Common.{rules, ◌≡◌, ◌∙◌, Some, map, ap, sym, string_bytes}
use Rattle.serde_json.specs.View.{view}
use Rattle.vx_rows_values.specs.declared.value.ColType.TheVariants.{Int}
use Rattle.vx_plan_json.specs.Document.{operand_call, operands_from, operand_form, computed}
use Rattle.vx_plan_json.specs.Form.{answer_in}
use Rattle.vx_plan_json.proofs.OperandFacts.{call_is}
use Rattle.vx_plan_json.proofs.operands.read_answer.Goals as goal

pub returns : goal.returns
unfolding answer_in
returns c =
    let h : answer_in c.args.levels (view c.args.value.now) ≡ Some (computed (operand_call (string_bytes c.in_ok-name.name) Int (operands_from (map operand_form c.in_ok-operands.operands.items)))) = search rules in
    h ∙ ap (λ o. Some (computed o)) (sym (call_is c.in_ok-name.name Int c.in_ok-operands.operands))

use Rattle.std.proofs.Common.{rules, ◌≡◌, ◌∙◌, ◌<◌, Some, None, map, ap, sym, string_bytes, arith}
use Rattle.serde_json.specs.Find.{as_str}
use Rattle.serde_json.specs.View.{view}
use Rattle.vx_plan_json.specs.Document.{operand_column, operand_call, operands_from, operand_form}
use Rattle.vx_plan_json.specs.Form.{call_in, operands_in}
use Rattle.vx_plan_json.proofs.OperandFacts.{call_is, operand-column, operand-none, operand-object}
use Rattle.vx_plan_json.proofs.operands.+operands.Goals as goal

pub read_call-returns : goal.read_call-returns
unfolding call_in
read_call-returns t c =
    let h : call_in (operands_in c.args.levels) (view c.args.value.now) ≡ Some (operand_call (string_bytes c.in_ok-name.name) c.in_ok-answer.answer (operands_from (map operand_form c.in_ok-operands.operands.items))) = search rules in
    h ∙ ap Some (sym (call_is c.in_ok-name.name c.in_ok-answer.answer c.in_ok-operands.operands))

pub read_operand-returns-in_err-read_name-in-Some : goal.read_operand-returns-in_err-read_name-in-Some
read_operand-returns-in_err-read_name-in-Some t c =
    let text : as_str (view c.args.value.now) ≡ Some c.in-Some.field-0.now = search rules in
    rw (operand-column c.args.levels _ _ text) (search rules)

pub read_operand-returns-in_ok-read_name-in-Some : goal.read_operand-returns-in_ok-read_name-in-Some
read_operand-returns-in_ok-read_name-in-Some t c =
    let text : as_str (view c.args.value.now) ≡ Some c.in-Some.field-0.now = search rules in
    rw (operand-column c.args.levels _ _ text) (search rules)

pub read_operand-returns-in-None : goal.read_operand-returns-in-None
read_operand-returns-in-None t c same =
    let none : as_str (view c.args.value.now) ≡ None = search rules in
    operand-none c.args.levels _ (search rules) none

pub read_operand-returns-in-None-2 : goal.read_operand-returns-in-None-2
read_operand-returns-in-None-2 t c =
    let none : as_str (view c.args.value.now) ≡ None = search rules in
    let some : 0 < c.args.levels = omega (arith, c.if-levels-eq0.false) in
    rw (operand-object c.args.levels _ some none) c.read_object.ensures

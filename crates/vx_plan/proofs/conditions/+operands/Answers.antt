use Rattle.std.proofs.Common.{ap, sym, ◌∙◌, subst, map, string_bytes, Result}
use Rattle.std.proofs.lemmas.Result.{err_from_is_err_and}
use Rattle.vx_plan_nodes.specs.Plan.{Expression}
use Rattle.vx_plan_json.specs.Document.{operand_form}
use Rattle.vx_plan_json.specs.Fault.{Refusal, Fails}
use Rattle.vx_plan_json.proofs.OperandFacts.{call_is}
use Rattle.vx_plan.specs.Resolve.{find_operand}
use Rattle.vx_plan.proofs.OperandFacts.{call-found, call-fails}
use Rattle.vx_plan.proofs.WalkFacts.{walk_fails}
use Rattle.vx_plan.proofs.conditions.+operands.Goals as goal

pub find_operand-returns-in_err-found-in-Call : goal.find_operand-returns-in_err-found-in-Call
find_operand-returns-in_err-found-in-Call t c =
    let call = c.in-Call in
    let walked = rw c.as_slice.ensures.value at c.in_err-found-in-Call.ensures in
    let said = ap (find_operand c.args.node c.args.names.now) (call_is call.name call.answer call.operands) in
    let P : Result Expression Refusal → Type 0 = λ r. Fails c.in_err-found-in-Call.field-0.0 r in
    let p = err_from_is_err_and c.from_residual-in_err-found-in-Call.result c.from_residual-in_err-found-in-Call.ensures.1 in
    rw (call.is, p.1, p.2) (subst P (sym said) (call-fails c.args.node c.args.names.now (string_bytes call.name) call.answer (map operand_form call.operands.items) _ walked))

pub find_operand-returns-in_ok-function-in-Call : goal.find_operand-returns-in_ok-function-in-Call
find_operand-returns-in_ok-function-in-Call t c =
    let call = c.in-Call in
    let walked = rw c.as_slice.ensures.value at c.in_ok-found-in-Call.ensures in
    let same = rw c.as_str-in-Call.ensures.value at c.in_ok-function-in-Call.ensures.ok in
    let said = ap (find_operand c.args.node c.args.names.now) (call_is call.name call.answer call.operands) in
    rw call.is (said ∙ call-found c.args.node c.args.names.now c.in_ok-function-in-Call.function call.name call.answer (map operand_form call.operands.items) c.in_ok-found-in-Call.found same walked)

pub find_operands-returns-in_err-one : goal.find_operands-returns-in_err-one
find_operands-returns-in_err-one t c = walk_fails _ _ _ _ _ _ c.loop-operand.invariant c.loop-operand-test.true c.operand-item.is c.in_err-one.ensures c.from_residual.ensures.1

use Rattle.std.proofs.Common.{◌∙◌, sym, ap, ap₂, Bool, ◌&&◌, List, map, take_all, string_bytes}
use Rattle.std.proofs.lemmas.List.Folds.{list_all_at}
use Rattle.std.specs.List.{list_all}
use Rattle.vx_rows_values.specs.declared.value.ColType.{ColType}
use Rattle.vx_plan_nodes.specs.declared.typed.Expression.{Expression}
use Rattle.vx_plan_nodes.specs.Known.{is_type, knows}
use Rattle.vx_plan_nodes.specs.Types.{expression_type}
use Rattle.vx_plan_nodes.specs.Outline.{expression_of}
use Rattle.vx_plan_nodes.specs.Functions.{Functions, given_for}
use Rattle.vx_plan_nodes.specs.Under.{expression_under}
use Rattle.vx_plan_nodes.proofs.CallUnder.{call-known}
use Rattle.vx_plan_nodes.proofs.known.+knows.Goals as goal

pub returns-then-not-branch : goal.returns-then-not-branch
returns-then-not-branch g t c =
    let given : Functions = g.F.PlanFunctions.functions c.args.functions.now in
    let known : Expression → Bool = λ e. knows c.args.types.now (expression_under given (expression_of e)) in
    let before = rw c.deref-operand-items.ensures.value at c.loop-operand-test.true in
    let at = rw c.deref-operand-items.ensures.value at c.operand-item.is in
    let unknown = list_all_at known c.in-Call.operands.items c.loop-operand.operand-index c.operand-item.result before (ap known (sym at) ∙ (sym (c.in_ok-knows-in-Call.ensures) ∙ c.if-not-branch.true)) in
    rw c.in-Call.is (sym (call-known given c.args.types.now c.in-Call.name c.in-Call.answer c.in-Call.operands ∙ ap (λ b. b && is_type c.in-Call.answer ((given_for given (string_bytes c.in-Call.name)).signature (map (λ e. expression_type c.args.types.now (expression_of e)) c.in-Call.operands.items))) unknown))

pub returns-after-loop-operand : goal.returns-after-loop-operand
returns-after-loop-operand g t c =
    let given : Functions = g.F.PlanFunctions.functions c.args.functions.now in
    let known : Expression → Bool = λ e. knows c.args.types.now (expression_under given (expression_of e)) in
    let type : Expression → ColType = λ e. expression_type c.args.types.now (expression_of e) in
    let end = rw c.deref-operand-items.ensures.value at c.loop-operand-test.false in
    let whole = take_all c.loop-operand.operand-index c.in-Call.operands.items end in
    let typed = rw c.deref-operand-items.ensures.value at c.loop-operand.invariant.typed in
    let known-so-far = rw c.deref-operand-items.ensures.value at c.loop-operand.invariant.known in
    let types = c.as_slice.ensures.value ∙ (typed ∙ ap (map type) whole) in
    let all = ap (list_all known) (sym whole) ∙ known-so-far in
    let answers : List ColType → Bool = λ ts. is_type c.in-Call.answer ((given_for given (string_bytes c.in-Call.name)).signature ts) in
    rw c.in-Call.is (c.has_signature.ensures ∙ (ap₂ (λ n ts. is_type c.in-Call.answer ((given_for given n).signature ts)) c.as_str.ensures.value types ∙ sym (call-known given c.args.types.now c.in-Call.name c.in-Call.answer c.in-Call.operands ∙ ap (λ b. b && answers (map type c.in-Call.operands.items)) all)))

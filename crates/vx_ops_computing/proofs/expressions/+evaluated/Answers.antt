use Rattle.std.proofs.Common.{arith, ◌≡◌, sym}
use Rattle.vx_ops_computing.proofs.Depths.{depth, call-falls}
use Rattle.vx_plan_nodes.specs.Outline.{expression_of}
use Rattle.vx_match_keys.proofs.ErrorFacts.{reported}
use Rattle.vx_ops_computing.specs.Answers.{IsUnanswered}
use Rattle.vx_ops_computing.specs.Fault.{Blames}
use Rattle.vx_ops_computing.specs.Given.{expression_by}
use Rattle.vx_ops_computing.proofs.AnswerFacts.{are-none, operand-unanswered}
use Rattle.vx_ops_computing.proofs.Blaming.{blames-as}
use Rattle.vx_ops_computing.proofs.CallResults.{inner-known, function-known, call-result, call-fault, are-next, are-all}
use Rattle.vx_ops_computing.proofs.expressions.+evaluated.Goals as goal

pub evaluated-requires : goal.evaluated-requires
evaluated-requires g t c κs l =
    let deep : depth (expression_of c.args.expression.now) ≡ t = c.decreases in
    let call = rw c.in-Call.is at deep in
    let before = rw c.deref-inner-items.ensures.value at c.loop-inner-test.true in
    let at = rw c.deref-inner-items.ensures.value at c.inner-item.is in
    let falls = call-falls c.in-Call.name c.in-Call.answer c.in-Call.expressions c.loop-inner.inner-index c.inner-item.result before at in (
      omega (arith, falls, call),
      (
        l,
        inner-known (g.F.PlanFunctions.functions c.args.functions.now) c.args.chunk.now.types c.in-Call.name c.in-Call.answer c.in-Call.expressions (rw c.in-Call.is at c.requires) c.loop-inner.inner-index c.inner-item.result
            before at,
      ),
    )

pub returns-in_err-evaluated-in-Call-clause-fault : goal.returns-in_err-evaluated-in-Call-clause-fault
returns-in_err-evaluated-in-Call-clause-fault g t c =
    let xs = c.args.chunk.now.rows in
    let e = c.inner-item.result in
    let before = rw c.deref-inner-items.ensures.value at c.loop-inner-test.true in
    let at = rw c.deref-inner-items.ensures.value at c.inner-item.is in
    let fails = operand-unanswered (g.F.PlanFunctions.functions c.args.functions.now) c.in-Call.name c.in-Call.answer c.in-Call.expressions xs c.loop-inner.inner-index e before (sym at) in
    reported c.from_residual.result c.in_err-evaluated-in-Call.field-0.0 (Blames (IsUnanswered (expression_by (g.F.PlanFunctions.functions c.args.functions.now) c.args.expression.now) xs)) c.from_residual.ensures.1
    (rw c.in-Call.is (blames-as (IsUnanswered (expression_by (g.F.PlanFunctions.functions c.args.functions.now) e) xs) _ c.in_err-evaluated-in-Call.field-0.0 fails c.in_err-evaluated-in-Call.ensures.fault))

pub loop-inner-init : goal.loop-inner-init
loop-inner-init g t c = rw c.new-operands.ensures.items (are-none (g.F.PlanFunctions.functions c.args.functions.now) c.args.chunk.now.types c.args.chunk.now.rows)

pub loop-inner-preserved : goal.loop-inner-preserved
loop-inner-preserved g t c =
    are-next (g.F.PlanFunctions.functions c.args.functions.now) c.args.chunk.now.types _ c.loop-inner.inner-index c.inner-item.result c.args.chunk.now.rows _ _ _ c.loop-inner-test.true c.inner-item.is c.in_ok-push-in-Call.ensures.items c.loop-inner.invariant
    c.in_ok-evaluated-in-Call.ensures.answers

pub called-requires-clause-known : goal.called-requires-clause-known
called-requires-clause-known g t c =
    let types = c.args.chunk.now.types in
    let xs = c.args.chunk.now.rows in
    let end = rw c.deref-inner-items.ensures.value at c.loop-inner-test.false in
    let so-far = rw c.deref-inner-items.ensures.value at c.loop-inner.invariant in
    let are = are-all (g.F.PlanFunctions.functions c.args.functions.now) types c.in-Call.expressions.items c.loop-inner.inner-index xs c.loop-inner.operands.items end so-far in
    function-known (g.F.PlanFunctions.functions c.args.functions.now) types c.in-Call.name c.in-Call.answer c.in-Call.expressions xs c.loop-inner.operands.items are _ _ c.as_str.ensures.value c.as_slice.ensures.value (rw c.in-Call.is at c.requires)

pub returns-after-loop-inner-clause-answers : goal.returns-after-loop-inner-clause-answers
returns-after-loop-inner-clause-answers g t c =
    let types = c.args.chunk.now.types in
    let xs = c.args.chunk.now.rows in
    let end = rw c.deref-inner-items.ensures.value at c.loop-inner-test.false in
    let so-far = rw c.deref-inner-items.ensures.value at c.loop-inner.invariant in
    let are = are-all (g.F.PlanFunctions.functions c.args.functions.now) types c.in-Call.expressions.items c.loop-inner.inner-index xs c.loop-inner.operands.items end so-far in
    rw c.in-Call.is
    (call-result (g.F.PlanFunctions.functions c.args.functions.now) types c.in-Call.name c.in-Call.answer c.in-Call.expressions xs c.loop-inner.operands.items are c.called.result _ _ _ c.as_str.ensures.value c.as_slice.ensures.value c.len.ensures c.called.ensures.called)

pub returns-after-loop-inner-clause-fault : goal.returns-after-loop-inner-clause-fault
returns-after-loop-inner-clause-fault g t c =
    let types = c.args.chunk.now.types in
    let xs = c.args.chunk.now.rows in
    let end = rw c.deref-inner-items.ensures.value at c.loop-inner-test.false in
    let so-far = rw c.deref-inner-items.ensures.value at c.loop-inner.invariant in
    let are = are-all (g.F.PlanFunctions.functions c.args.functions.now) types c.in-Call.expressions.items c.loop-inner.inner-index xs c.loop-inner.operands.items end so-far in
    rw c.in-Call.is
    (call-fault (g.F.PlanFunctions.functions c.args.functions.now) types c.in-Call.name c.in-Call.answer c.in-Call.expressions xs c.loop-inner.operands.items are c.called.result _ _ _ c.as_str.ensures.value c.as_slice.ensures.value c.len.ensures c.called.ensures.fault)

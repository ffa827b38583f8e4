use Rattle.std.proofs.Common.{◌≡◌, ℕ, ℤ, ◌+◌, ◌≤◌, ◌++◌, List, length, subst, ap, ◌∙◌, arith}
use Rattle.vx_match_keys.proofs.ErrorFacts.{reported}
use Rattle.vx_ops_computing.specs.declared.operands.Operand.{Operand}
use Rattle.vx_ops_computing.specs.Answers.{IsAnswered, IsUnanswered}
use Rattle.vx_ops_computing.specs.Blocks.{AreAnswers}
use Rattle.vx_ops_computing.specs.Fault.{Blames}
use Rattle.vx_ops_computing.specs.Given.{expression_by}
use Rattle.vx_ops_computing.proofs.Blaming.{blames-as}
use Rattle.vx_ops_computing.proofs.BlockFacts.{block-unanswered, answers-none, answers-more}
use Rattle.vx_ops_computing.proofs.blocks.computed_numbers.Goals as goal

pub loop-from-init : goal.loop-from-init
loop-from-init g c = record {
  near = omega arith;
  answers = answers-none (expression_by (g.F.PlanFunctions.functions c.args.functions.now) c.args.expression.now) c.args.chunk.now.rows c.in_ok-numbers.numbers.items c.in_ok-numbers.ensures.items;
}

pub loop-from-preserved : goal.loop-from-preserved
loop-from-preserved g c =
    let e = expression_by (g.F.PlanFunctions.functions c.args.functions.now) c.args.expression.now in
    let xs = c.args.chunk.now.rows in
    let part = c.in_ok-part.part in
    let from = c.loop-from.from in
    let block = c.min-block.result in
    let old = c.loop-from.numbers.items in
    let near : from + block ≤ length xs = omega arith in
    let P : Operand → Type 0 = λ o. IsAnswered part.types e part.rows o in
    let found = subst P c.in-Numbers.is c.in_ok-operand.ensures.answers in
    let pushed = c.in_ok-extend_from_slice-in-Numbers.ensures.items ∙ ap (λ (zs : List ℤ). old ++ zs) c.as_slice.ensures.value in
    record { near = near; answers = answers-more part.types e xs part.rows from block old _ c.in-Numbers.found near c.in_ok-part.ensures.rows c.loop-from.invariant.answers found pushed }

pub returns-in_err-operand-clause-fault : goal.returns-in_err-operand-clause-fault
returns-in_err-operand-clause-fault g c =
    let e = expression_by (g.F.PlanFunctions.functions c.args.functions.now) c.args.expression.now in
    let xs = c.args.chunk.now.rows in
    let part = c.in_ok-part.part.rows in
    let from = c.loop-from.from in
    let block = c.min-block.result in
    let near : from + block ≤ length xs = omega arith in
    let fault = c.in_err-operand.field-0.0 in
    reported c.from_residual-in_err-operand.result fault (Blames (IsUnanswered e xs)) c.from_residual-in_err-operand.ensures.1
    (blames-as (IsUnanswered e part) (IsUnanswered e xs) fault (block-unanswered e xs part from block near c.in_ok-part.ensures.rows) c.in_err-operand.ensures.fault)

pub returns-clause-numbers : goal.returns-clause-numbers
returns-clause-numbers g c =
    let e = expression_by (g.F.PlanFunctions.functions c.args.functions.now) c.args.expression.now in
    let xs = c.args.chunk.now.rows in
    let all : c.loop-from.from ≡ length xs = omega arith in
    let P : ℕ → Type 0 = λ n. AreAnswers e xs n c.loop-from.numbers.items in
    subst P all c.loop-from.invariant.answers

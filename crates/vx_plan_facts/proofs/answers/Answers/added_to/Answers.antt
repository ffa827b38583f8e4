use Rattle.vx_plan_facts.specs.ColumnSetView.{set_of_columns}
use Rattle.vx_plan_facts.proofs.AnswerFacts.{same-then}
use Rattle.vx_plan_facts.proofs.KeptFacts.{kept-is}
use Rattle.vx_plan_facts.proofs.answers.Answers.added_to.Goals as goal

pub loop-answer-preserved : goal.loop-answer-preserved
loop-answer-preserved c catalog p formed few are =
    let items = c.deref-answer-items in
    let is = kept-is catalog p c.args.self.now items.result.now c.loop-answer.answer-index _ items.ensures.value c.loop-answer-test.true are in
    same-then catalog p formed (set_of_columns c.args.set.now) (set_of_columns c.loop-answer.larger) (set_of_columns c.add_answer.new.set)
    (c.loop-answer.invariant catalog p formed few are) (c.add_answer.ensures catalog p formed few is)

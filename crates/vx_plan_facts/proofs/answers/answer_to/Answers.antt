use Rattle.vx_plan_facts.specs.ColumnSetView.{set_of_columns}
use Rattle.vx_plan_facts.proofs.AnswerFacts.{same-again}
use Rattle.vx_plan_facts.proofs.answers.answer_to.Goals as goal

pub returns-then-is_within-2 : goal.returns-then-is_within-2
returns-then-is_within-2 c catalog p formed is =
    let asked = set_of_columns c.args.answer.now.asked in
    let found = set_of_columns c.args.answer.now.found in
    same-again catalog p formed asked found (set_of_columns c.args.set.now) is (c.is_within.ensures.all c.if-is_within.true) (c.is_within-then-is_within.ensures.all c.if-is_within-2.true)

use Rattle.vx_plan_facts.specs.ColumnSetView.{set_of_columns}
use Rattle.vx_plan_facts.proofs.AnswerFacts.{same-with}
use Rattle.vx_plan_facts.proofs.answers.add_answer.Goals as goal

pub returns-then-is_within : goal.returns-then-is_within
returns-then-is_within c catalog p formed few is =
    let asked = set_of_columns c.args.answer.now.asked in
    let found = set_of_columns c.args.answer.now.found in
    same-with catalog p formed asked found (set_of_columns c.args.set.now) (set_of_columns c.put_all.new.self) few is (c.is_within.ensures.all c.if-is_within.true) c.put_all.ensures

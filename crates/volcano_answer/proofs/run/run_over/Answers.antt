use Rattle.volcano_answer.proofs.run.run_over.Goals as goal

pub returns-clause-run : goal.returns-clause-run
returns-clause-run g c = λ f asked. rw (c.in_ok-text_of.ensures, c.plan.ensures.same) (c.in_ok-rows.ensures.run f asked)

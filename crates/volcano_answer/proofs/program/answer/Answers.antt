use Rattle.volcano_answer.proofs.program.answer.Goals as goal

pub returns-clause-usage : goal.returns-clause-usage
returns-clause-usage g c some two = (c.reply_to_arguments.ensures.usage two).0

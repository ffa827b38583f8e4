use Rattle.std.proofs.Common.{◌∙◌, ap}
use Rattle.volcano_embed.specs.Given.{error_form}
use Rattle.volcano_embed.specs.Over.{answers_over, closed}
use Rattle.volcano_embed.proofs.GivenFacts.{nothing_more}
use Rattle.volcano_embed.proofs.asking.ask_over.Goals as goal

pub returns-in-Some-clause-answer : goal.returns-in-Some-clause-answer
returns-in-Some-clause-answer c =
    let over = c.in-Some.ensures.reply in
    answers_over over.0 c.in-Some.reply over.1 over.2 c.give.ensures.given

pub returns-in-None-clause-answer : goal.returns-in-None-clause-answer
returns-in-None-clause-answer c = closed c.in-None.ensures.closed c.give_none.ensures.status

pub returns-in-Some-clause-short : goal.returns-in-Some-clause-short
returns-in-Some-clause-short c = λ zero. nothing_more c.in-Some.reply c.give.result c.give.new.answer (c.in-Some.ensures.short (c.errors_in-form.ensures ∙ ap error_form zero)) c.give.ensures.given

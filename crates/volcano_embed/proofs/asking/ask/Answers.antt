use Rattle.std.proofs.Common.{◌∙◌, ap}
use Rattle.volcano_embed.specs.Given.{answers, no_catalog, error_form}
use Rattle.volcano_embed.proofs.GivenFacts.{nothing_more}
use Rattle.volcano_embed.proofs.asking.ask.Goals as goal

pub returns-in-Ok-clause-answer : goal.returns-in-Ok-clause-answer
returns-in-Ok-clause-answer c = answers c.in-Ok.session c.reply_to.result c.in-Ok.ensures.catalog c.reply_to.ensures.answer c.give.ensures.given

pub returns-in-Err-clause-answer : goal.returns-in-Err-clause-answer
returns-in-Err-clause-answer c = no_catalog c.in-Err.refusal c.in-Err.ensures.refused c.give_refused.ensures.refusal

pub returns-in-Ok-clause-short : goal.returns-in-Ok-clause-short
returns-in-Ok-clause-short c = λ zero. nothing_more c.reply_to.result c.give.result c.give.new.answer (c.reply_to.ensures.short (c.errors_in-form.ensures ∙ ap error_form zero)) c.give.ensures.given

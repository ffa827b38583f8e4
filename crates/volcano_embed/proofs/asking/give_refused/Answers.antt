use Rattle.std.proofs.Common.{◌∙◌, ap}
use Rattle.volcano_embed.specs.Given.{error_form}
use Rattle.volcano_embed.proofs.GivenFacts.{nothing_more}
use Rattle.volcano_embed.proofs.asking.give_refused.Goals as goal

pub returns-clause-short : goal.returns-clause-short
returns-clause-short c = λ zero. nothing_more c.refusal_reply.result c.give.result c.give.new.answer (c.refusal_reply.ensures.short (c.errors_in-form.ensures ∙ ap error_form zero)) c.give.ensures.given

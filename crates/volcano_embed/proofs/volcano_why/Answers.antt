use Rattle.volcano_embed.specs.Given.{explains_code}
use Rattle.volcano_embed.proofs.volcano_why.Goals as goal

pub returns-in-Some-clause-answer : goal.returns-in-Some-clause-answer
returns-in-Some-clause-answer c = explains_code c.in-Some.reply c.in-Some.ensures.reply c.give.ensures.given

use Rattle.volcano_embed.specs.Over.{opens, opens_none}
use Rattle.volcano_embed.proofs.catalog.volcano_catalog_open.Goals as goal

pub returns-in-Ok-clause-answer : goal.returns-in-Ok-clause-answer
returns-in-Ok-clause-answer c =
    let over = c.in-Ok.ensures.opened in
    opens over.0 over.2 over.1 c.give_none.ensures.status

pub returns-in-Err-clause-answer : goal.returns-in-Err-clause-answer
returns-in-Err-clause-answer c = opens_none c.in-Err.refusal c.in-Err.ensures.refused c.in-Err.ensures.closed c.give_refused.ensures.refusal

use Rattle.volcano_embedding.specs.Replies.{refused}
use Rattle.volcano_embedding.proofs.replies.reply_to.Goals as goal

pub returns-after-matches-clause-answer : goal.returns-after-matches-clause-answer
returns-after-matches-clause-answer c = refused c.in-Err.refusal c.in-Err.ensures.refused c.refusal_reply.ensures.reply

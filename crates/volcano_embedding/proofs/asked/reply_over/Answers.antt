use Rattle.std.proofs.Common.{sym}
use Rattle.volcano_embedding.proofs.asked.reply_over.Goals as goal

pub returns-clause-reply : goal.returns-clause-reply
returns-clause-reply c =
    (c.in_ok-session.session.value, sym c.in_ok-session.ensures.taken, rw (c.session.ensures, c.deref.ensures) at c.reply_to-reply.ensures.answer)

use Rattle.std.proofs.lemmas.Result.{IfOk-weaker}
use Rattle.volcano_embedding.proofs.more.more_of.Goals as goal

pub returns-in-Long : goal.returns-in-Long
returns-in-Long c =
    record { short = λ e. absurd (c.in_default.not-Short e); long = λ e. IfOk-weaker c.text_lines.result _ _ (λ v same. (c.in_ok-found.found, same)) c.text_lines.ensures }

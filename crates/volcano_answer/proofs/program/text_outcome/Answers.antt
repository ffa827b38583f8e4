use Rattle.std.proofs.Common.{List, ℕ, IfSome, subst}
use Rattle.volcano_answer.specs.Answer.{IsAnswer}
use Rattle.volcano_answer.specs.Made.{text_in}
use Rattle.volcano_answer.specs.declared.layouts.Layout.{Layout}
use Rattle.volcano_answer.proofs.program.text_outcome.Goals as goal

pub returns-in-Ok-clause-text : goal.returns-in-Ok-clause-text
returns-in-Ok-clause-text g c =
    rw c.into_text.ensures
    (subst (λ (layout : Layout). IfSome (g.I.ByteIn.remaining c.args.input.now) (λ (bytes : List ℕ). IsAnswer layout bytes (text_in c.in-Ok.answer))) c.with_layout.ensures.layout c.in-Ok.ensures.text)

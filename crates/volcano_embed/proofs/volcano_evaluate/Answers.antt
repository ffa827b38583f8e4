use Rattle.std.proofs.Common.{◌∙◌, ℕ, List, map, ap, subst}
use Rattle.volcano_embedding.specs.Texts.{table_form}
use Rattle.volcano_embedding.specs.Replies.{EvaluatesTo}
use Rattle.volcano_embed.specs.Given.{AnswersAs, evaluates, no_tables}
use Rattle.volcano_embed.proofs.volcano_evaluate.Goals as goal

pub returns-in-Ok-clause-answer : goal.returns-in-Ok-clause-answer
returns-in-Ok-clause-answer c =
    let P : List (List ℕ × List ℕ) → Type 0 = λ tables. AnswersAs (λ relations. EvaluatesTo tables relations c.args.plan.now) c.args.catalog.now c.ask.result c.ask.new.answer in
    evaluates (subst P (ap (map table_form) c.as_slice.ensures.value ∙ c.in-Ok.ensures.tables) c.ask.ensures.answer)

pub returns-in-Err-clause-answer : goal.returns-in-Err-clause-answer
returns-in-Err-clause-answer c = no_tables c.in-Err.fault c.in-Err.ensures.refused c.give_span.ensures.status

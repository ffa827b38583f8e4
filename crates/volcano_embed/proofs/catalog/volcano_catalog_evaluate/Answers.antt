use Rattle.std.proofs.Common.{◌∙◌, ℕ, List, map, ap, subst}
use Rattle.volcano_embedding.specs.Texts.{table_form}
use Rattle.volcano_embedding.specs.Replies.{EvaluatesTo}
use Rattle.volcano_embedding.specs.Handle.{catalog_in}
use Rattle.volcano_embed.specs.Over.{AnswersOver, evaluates_over, spans_over}
use Rattle.volcano_embed.proofs.catalog.volcano_catalog_evaluate.Goals as goal

pub returns-in-Ok-clause-answer : goal.returns-in-Ok-clause-answer
returns-in-Ok-clause-answer c =
    let P : List (List ℕ × List ℕ) → Type 0 = λ tables. AnswersOver (λ relations. EvaluatesTo tables relations c.args.plan.now) (catalog_in c.args.catalog.now) c.ask_over.result c.ask_over.new.answer in
    evaluates_over (subst P (ap (map table_form) c.as_slice.ensures.value ∙ c.in-Ok.ensures.tables) c.ask_over.ensures.answer)

pub returns-in-Err-clause-answer : goal.returns-in-Err-clause-answer
returns-in-Err-clause-answer c = spans_over c.in-Err.fault c.in-Err.ensures.refused c.give_span.ensures.status

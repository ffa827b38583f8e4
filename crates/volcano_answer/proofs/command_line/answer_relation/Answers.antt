use Rattle.std.proofs.Common.{refl, inl, inr}
use Rattle.std.proofs.lemmas.Result.{err_from_is_err_and}
use Rattle.volcano_answer.specs.CommandLine.{for_relation, ask_memory, for_asked_relation}
use Rattle.volcano_answer.proofs.command_line.answer_relation.Goals as goal

pub returns-in-Csv-clause-answer : goal.returns-in-Csv-clause-answer
returns-in-Csv-clause-answer g c = λ files input. (refl, c.in-Csv.is)

pub returns-in_err-text-clause-refused : goal.returns-in_err-text-clause-refused
returns-in_err-text-clause-refused g c = λ files reliable input failed.
    let p = err_from_is_err_and c.from_residual.result c.from_residual.ensures.1 in
    rw (p.1, p.2) (elim c.in_err-text.ensures.refused [ inl memory ↦ ask_memory memory | inr large ↦ for_asked_relation c.args.rows refl large.0 large.1 ])

pub returns-clause-answer : goal.returns-clause-answer
returns-clause-answer g c = λ files input. for_relation c.args.rows refl c.in_ok-text.ensures.few c.in_ok-text.ensures.text

use Rattle.std.proofs.lemmas.Result.{err_from_is_err_and}
use Rattle.volcano_answer.proofs.FileFacts.{input_refused}
use Rattle.volcano_answer.proofs.program.outcome_of.Goals as goal

pub returns-in_err-bytes-clause-refused : goal.returns-in_err-bytes-clause-refused
returns-in_err-bytes-clause-refused g c =
    let p = err_from_is_err_and c.from_residual.result c.from_residual.ensures.1 in
    rw (p.1, p.2) (input_refused (g.I.ByteIn.remaining c.args.input.now) (g.I.ByteIn.has_failed c.input_bytes.new.input) c.in_err-bytes.field-0.0 c.in_err-bytes.ensures.refused)

use Rattle.std.proofs.Common.{rules, ◌≡◌, refl}
use Rattle.std.proofs.lemmas.Result.{err_from_is_err_and}
use Rattle.volcano_bundle.specs.declared.command.Command.TheVariants as command
use Rattle.volcano_answer.specs.Commands.{for_serial}
use Rattle.volcano_answer.proofs.command.execute.Goals as goal

pub returns-in_err-text-in-Serial-clause-refused : goal.returns-in_err-text-in-Serial-clause-refused
returns-in_err-text-in-Serial-clause-refused g c =
    let asked : c.args.command ≡ command.Serial = search rules in
    let p = err_from_is_err_and c.from_residual-in_err-text-in-Serial.result c.from_residual-in_err-text-in-Serial.ensures.1 in
    rw (p.1, p.2) (rw asked (for_serial refl c.in_err-text-in-Serial.ensures.refused))

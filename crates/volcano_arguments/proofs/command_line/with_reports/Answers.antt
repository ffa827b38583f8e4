use Rattle.volcano_arguments.proofs.command_line.with_reports.Goals as goal

pub returns : goal.returns
returns c = λ app command_is.
    let errors = c.with_option-command.ensures _ _ command_is (c.errors_option.ensures.rule, c.errors_option.ensures.own) in
    c.with_option.ensures _ _ errors (c.verbose_option.ensures.rule, c.verbose_option.ensures.own)

use Rattle.volcano_arguments.proofs.command_line.annotate.Goals as goal

pub returns : goal.returns
returns c =
    let derive = c.with_option-command.ensures _ _ c.judging-command.ensures (c.derive_option.ensures.rule, c.derive_option.ensures.own) in
    c.with_reports.ensures _ derive

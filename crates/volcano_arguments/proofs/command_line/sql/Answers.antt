use Rattle.volcano_arguments.proofs.command_line.sql.Goals as goal

pub returns : goal.returns
returns c =
    let dialect = c.with_option-command.ensures _ _ c.judging-command.ensures (c.dialect_option.ensures.rule, c.dialect_option.ensures.own) in
    c.with_reports.ensures _ dialect

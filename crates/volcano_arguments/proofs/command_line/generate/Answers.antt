use Rattle.volcano_arguments.proofs.command_line.generate.Goals as goal

pub returns : goal.returns
returns c =
    let rows = c.with_option-command.ensures _ _ (c.bare-command.ensures.app, c.bare-command.ensures.local) (c.rows_option.ensures.rule, c.rows_option.ensures.own) in
    c.with_rows.ensures _ rows

use Rattle.volcano_arguments.proofs.command_line.explain.Goals as goal

pub returns : goal.returns
returns c =
    let format = c.with_option-command.ensures _ _ c.judging-command.ensures (c.format_option.ensures.rule, c.format_option.ensures.own) in
    let drawn = c.with_option-command-2.ensures _ _ format (c.drawn_option.ensures.rule, c.drawn_option.ensures.own) in
    c.with_reports.ensures _ drawn

use Rattle.volcano_arguments.proofs.command_line.check.Goals as goal

pub returns : goal.returns
returns c =
    let all = c.with_option-command.ensures _ _ c.judging-command.ensures (c.all_option.ensures.rule, c.all_option.ensures.own) in
    c.with_reports.ensures _ all

use Rattle.volcano_arguments.proofs.command_line.judging.Goals as goal

pub returns : goal.returns
returns c =
    c.with_option.ensures _ _ c.reading-command.ensures (c.plan_option.ensures.rule, c.plan_option.ensures.own)

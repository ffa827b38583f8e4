use Rattle.volcano_arguments.proofs.command_line.why.Goals as goal

pub returns : goal.returns
returns c =
    c.with_option.ensures _ _ (c.bare-command.ensures.app, c.bare-command.ensures.local) (c.code_argument.ensures.rule, c.code_argument.ensures.own)

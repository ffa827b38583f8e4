use Rattle.volcano_arguments.proofs.command_line.reading.Goals as goal

pub returns : goal.returns
returns c =
    c.with_option.ensures _ _ (c.bare-command.ensures.app, c.bare-command.ensures.local) (c.catalog_option.ensures.rule, c.catalog_option.ensures.own)

use Rattle.volcano_arguments.proofs.command_line.with_rows.Goals as goal

pub returns : goal.returns
returns c = λ app command_is.
    let layout = c.with_option-command.ensures _ _ command_is (c.layout_option.ensures.rule, c.layout_option.ensures.own) in
    c.with_option.ensures _ _ layout (c.output_option.ensures.rule, c.output_option.ensures.own)

use Rattle.volcano_arguments.proofs.command_line.serial.Goals as goal

pub returns : goal.returns
returns c =
    let data_added = c.with_option-command.ensures _ _ c.judging-command.ensures (c.data_option.ensures.rule, c.data_option.ensures.own) in
    let threads = c.with_option-command-2.ensures _ _ data_added (c.threads_option.ensures.rule, c.threads_option.ensures.own) in
    let quiet = c.with_option-command-3.ensures _ _ threads (c.quiet_option.ensures.rule, c.quiet_option.ensures.own) in
    c.with_reports.ensures _ (c.with_rows-command.ensures _ quiet)

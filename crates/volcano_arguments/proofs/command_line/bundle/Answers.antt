use Rattle.volcano_arguments.proofs.command_line.bundle.Goals as goal

pub returns : goal.returns
returns c =
    let threads = c.with_option-command.ensures _ _ (c.bare-command.ensures.app, c.bare-command.ensures.local) (c.threads_option.ensures.rule, c.threads_option.ensures.own) in
    let stats = c.with_option-command-2.ensures _ _ threads (c.stats_option.ensures.rule, c.stats_option.ensures.own) in
    c.with_reports.ensures _ stats

use Rattle.volcano_arguments.proofs.command_line.catalog.Goals as goal

pub returns : goal.returns
returns c =
    let threads = c.with_option-command.ensures _ _ (c.bare-command.ensures.app, c.bare-command.ensures.local) (c.threads_option.ensures.rule, c.threads_option.ensures.own) in
    let quiet = c.with_option-command-2.ensures _ _ threads (c.silent_option.ensures.rule, c.silent_option.ensures.own) in
    c.with_option.ensures _ _ (c.with_reports-command.ensures _ quiet) (c.files_argument.ensures.rule, c.files_argument.ensures.own)

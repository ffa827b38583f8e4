use Rattle.volcano_arguments.proofs.command_line.run.Goals as goal

pub returns : goal.returns
returns c =
    let plans = c.with_option-command.ensures _ _ c.reading-command.ensures (c.plans_option.ensures.rule, c.plans_option.ensures.own) in
    let data_added = c.with_option-command-2.ensures _ _ plans (c.data_option.ensures.rule, c.data_option.ensures.own) in
    let packet = c.with_option-command-3.ensures _ _ data_added (c.packet_option.ensures.rule, c.packet_option.ensures.own) in
    let morsel = c.with_option-command-4.ensures _ _ packet (c.morsel_option.ensures.rule, c.morsel_option.ensures.own) in
    let slack = c.with_option-command-5.ensures _ _ morsel (c.slack_option.ensures.rule, c.slack_option.ensures.own) in
    let mode = c.with_option-command-6.ensures _ _ slack (c.mode_option.ensures.rule, c.mode_option.ensures.own) in
    let threads = c.with_option-command-7.ensures _ _ mode (c.threads_option.ensures.rule, c.threads_option.ensures.own) in
    let quiet = c.with_option-command-8.ensures _ _ threads (c.quiet_option.ensures.rule, c.quiet_option.ensures.own) in
    let stats = c.with_option-command-9.ensures _ _ quiet (c.stats_option.ensures.rule, c.stats_option.ensures.own) in
    let rows = c.with_rows-command.ensures _ stats in
    c.with_option.ensures _ _ (c.with_reports-command.ensures _ rows) (c.sizes_argument.ensures.rule, c.sizes_argument.ensures.own)

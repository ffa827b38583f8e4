use Rattle.volcano_answer.proofs.StatsTextFacts.{stats_named_in}
use Rattle.volcano_answer.proofs.command_line.stats_fault.Goals as goal

pub returns : goal.returns
returns c = stats_named_in c.args.word.now _ c.usage_fault.result c.requires c.usage_fault.ensures

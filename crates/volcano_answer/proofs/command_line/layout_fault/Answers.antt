use Rattle.volcano_answer.proofs.StatsTextFacts.{layout_named_in}
use Rattle.volcano_answer.proofs.command_line.layout_fault.Goals as goal

pub returns : goal.returns
returns c = layout_named_in c.args.word.now _ c.usage_fault.result c.requires c.usage_fault.ensures

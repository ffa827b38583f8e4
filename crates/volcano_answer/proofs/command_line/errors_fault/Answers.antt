use Rattle.volcano_answer.proofs.StatsTextFacts.{errors_named_in}
use Rattle.volcano_answer.proofs.command_line.errors_fault.Goals as goal

pub returns : goal.returns
returns c = errors_named_in c.args.word.now _ c.usage_fault.result c.usage_fault.ensures

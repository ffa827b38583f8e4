use Rattle.std.proofs.Common.{◌∙◌}
use Rattle.volcano_arguments.proofs.NumberFacts.{number_ok}
use Rattle.volcano_arguments.proofs.asked.number_in.Goals as goal

pub returns : goal.returns
returns c = c.ok.ensures.value ∙ number_ok c.args.text.now c.parse.result c.parse.ensures.value.0

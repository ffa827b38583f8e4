use Rattle.vx_check_rules.proofs.UnaskedFacts.{functions-are-not-asked}
use Rattle.vx_check_rules.proofs.laws.functions_are_not_asked.Goals as goal

pub returns : goal.returns
returns c = functions-are-not-asked

use Rattle.vx_check_rules.proofs.Refusals.{tables-decide}
use Rattle.vx_check_rules.proofs.laws.tables_decide.Goals as goal

pub returns : goal.returns
returns c = tables-decide

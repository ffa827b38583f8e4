use Rattle.volcano_answer.proofs.CaseFacts.{case_is_refused_by_setup}
use Rattle.volcano_answer.proofs.laws.case_is_refused_by_setup.Goals as goal

pub returns : goal.returns
returns c = case_is_refused_by_setup

use Rattle.vx_exec_laws.proofs.FormLemmas.{forms-agree}
use Rattle.vx_exec_laws.proofs.forms_agree.Goals as goal

pub returns : goal.returns
returns c = forms-agree

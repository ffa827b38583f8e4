use Rattle.vx_plan_facts.proofs.RowFacts.{typed-inputs-fit}
use Rattle.vx_plan_facts.proofs.laws.typed_inputs_fit.Goals as goal

pub returns : goal.returns
returns c = typed-inputs-fit

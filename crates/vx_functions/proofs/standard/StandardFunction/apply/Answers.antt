use Rattle.vx_functions.proofs.MeaningFacts.{too-many}
use Rattle.vx_functions.proofs.standard.StandardFunction.apply.Goals as goal

pub returns-in-len4-up : goal.returns-in-len4-up
returns-in-len4-up c = too-many c.args.self c.args.values.now c.in-len4-up.len_at_least

use Rattle.vx_plan.proofs.BoundFacts.{lengths_differ}
use Rattle.vx_plan.proofs.fits.are_same_types.Goals as goal

pub returns-then-kinds-others : goal.returns-then-kinds-others
returns-then-kinds-others c = lengths_differ c.args.kinds.now c.args.others.now c.if-kinds-others.true

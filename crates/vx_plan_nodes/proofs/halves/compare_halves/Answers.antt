use Rattle.std.proofs.Common.{◌∙◌, ap, ◌++◌}
use Rattle.std.specs.Ordering.{ordering_reverse}
use Rattle.vx_plan_nodes.proofs.HalfFacts.{turned-order}
use Rattle.vx_plan_nodes.proofs.halves.compare_halves.Goals as goal

pub returns-else-other_front-front : goal.returns-else-other_front-front
returns-else-other_front-front c = c.reverse.ensures ∙ (ap ordering_reverse c.compare_longer-else-other_front-front.ensures ∙ turned-order (c.args.other_front.now ++ c.args.other_back.now) (c.args.front.now ++ c.args.back.now))

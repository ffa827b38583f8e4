use Rattle.std.proofs.Common.{length, ap, ◌∙◌}
use Rattle.vx_plan_nodes.specs.Outline.{plan_of}
use Rattle.vx_check_rules.proofs.WidthFacts.{types_of-width}
use Rattle.vx_check_rules.proofs.nodes.width_of.Goals as goal

pub returns : goal.returns
returns c = λ catalog h. ap length (c.output_types.ensures catalog h) ∙ types_of-width catalog (plan_of c.args.node.now)

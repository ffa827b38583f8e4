use Rattle.vx_plan_nodes.specs.Numbering.{nodes}
use Rattle.vx_plan_nodes.specs.Outline.{plan_of}
use Rattle.vx_check_rules.proofs.refusal.+first_refused_in.Given as goal

abbrev pub decreases-first_refused_in : goal.decreases-first_refused_in
decreases-first_refused_in l = nodes (plan_of l.node.now)

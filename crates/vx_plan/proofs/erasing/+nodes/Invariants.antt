use Rattle.std.specs.Prelude.{◌+◌, ◌*◌}
use Rattle.vx_plan_nodes.specs.Numbering.{nodes}
use Rattle.vx_plan_nodes.specs.Outline.{plan_of}
use Rattle.vx_plan.proofs.erasing.+nodes.Given as goal

abbrev pub decreases-erased_from : goal.decreases-erased_from
decreases-erased_from l = 2 * nodes (plan_of l.node.now)

abbrev pub decreases-erased_input : goal.decreases-erased_input
decreases-erased_input l = 2 * nodes (plan_of l.node.now) + 1

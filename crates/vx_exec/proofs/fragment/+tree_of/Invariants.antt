use Rattle.vx_plan_nodes.specs.Numbering.{nodes}
use Rattle.vx_plan_nodes.specs.Outline.{plan_of}
use Rattle.vx_exec.proofs.fragment.+tree_of.Given as goal

abbrev pub decreases-tree_of : goal.decreases-tree_of
decreases-tree_of g l = nodes (plan_of l.node.now)

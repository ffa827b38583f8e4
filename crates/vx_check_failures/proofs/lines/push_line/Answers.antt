use Rattle.vx_plan_nodes.specs.TypedView.{scope, plan}
use Rattle.vx_check_failures.proofs.FindingFacts.{found-node}
use Rattle.vx_check_failures.proofs.lines.push_line.Goals as goal

pub push_shown-requires-clause-node : goal.push_shown-requires-clause-node
push_shown-requires-clause-node c =
    found-node c.args.plan.now c.args.failure.node c.node_numbered-node.result (rw c.root.ensures.root at c.root.ensures.outputs) (rw c.root.ensures.plan at c.root.ensures.typed.nodes) (rw c.root.ensures.root at c.node_numbered-node.ensures)

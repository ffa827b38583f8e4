use Rattle.vx_plan_nodes.specs.Numbering.{nodes}
use Rattle.vx_plan_nodes.specs.Outline.{plan_of}
use Rattle.vx_check_failures.proofs.failing.+put_failures.Given as goal

abbrev pub decreases-put_failures : goal.decreases-put_failures
decreases-put_failures l = nodes (plan_of l.node.now)

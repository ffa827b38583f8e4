use Rattle.vx_plan_nodes.specs.Numbering.{nodes}
use Rattle.vx_plan_nodes.specs.Outline.{plan_of}
use Rattle.vx_check_directions.proofs.finding.+put_falls.Given as goal

abbrev pub decreases-put_falls : goal.decreases-put_falls
decreases-put_falls l = nodes (plan_of l.node.now)

use Rattle.std.proofs.Common.{◌≡◌, drop}
use Rattle.vx_plan_nodes.specs.Outline.{plan_of}
use Rattle.vx_check_causes.specs.Causes.{first_below}
use Rattle.vx_check_causes.proofs.below.first_below.Given as goal

abbrev pub invariant-loop-number : goal.invariant-loop-number
invariant-loop-number l = first_below (drop l.number-index l.numbers) (plan_of l.node) ≡ first_below l.numbers (plan_of l.node)

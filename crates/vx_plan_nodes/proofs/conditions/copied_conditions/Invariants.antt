use Rattle.std.proofs.Common.{◌≡◌, map, take}
use Rattle.vx_plan_nodes.specs.Outline.{condition_of}
use Rattle.vx_plan_nodes.proofs.conditions.copied_conditions.Given as goal

abbrev pub invariant-loop-condition : goal.invariant-loop-condition
invariant-loop-condition l = map condition_of l.copies.items ≡ map condition_of (take l.condition-index l.conditions)

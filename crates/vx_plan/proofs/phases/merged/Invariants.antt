use Rattle.std.proofs.Common.{◌≡◌, map, take}
use Rattle.vx_plan_nodes.specs.Outline.{aggregate_of}
use Rattle.vx_plan_nodes.specs.Phases.{merged}
use Rattle.vx_plan.proofs.phases.merged.Given as goal

abbrev pub invariant-loop-i : goal.invariant-loop-i
invariant-loop-i l = map aggregate_of l.found.items ≡ merged l.count (map aggregate_of (take l.i l.aggregates))

use Rattle.std.proofs.Common.{◌≡◌, take, filter}
use Rattle.vx_plan_nodes.specs.Conditions.{conditions_of}
use Rattle.vx_plan_nodes.specs.Serial.{passes}
use Rattle.vx_ops_kernels.proofs.chunks.chosen_of.Given as goal

abbrev pub invariant-loop-i : goal.invariant-loop-i
invariant-loop-i l = (l.found.types ≡ l.chunk.types) × (l.found.rows ≡ filter (passes (conditions_of (take l.i l.conditions))) l.chunk.rows)

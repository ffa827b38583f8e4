use Rattle.std.proofs.Common.{◌≡◌, ◌++◌, take, filter}
use Rattle.vx_plan_nodes.specs.Conditions.{conditions_of}
use Rattle.vx_plan_nodes.specs.Serial.{passes}
use Rattle.vx_rows_views.specs.Chunks.{all_rows}
use Rattle.vx_ops_kernels.proofs.chunks.add_chosen.Given as goal

abbrev pub invariant-loop-i : goal.invariant-loop-i
invariant-loop-i l = record {
  types : l.found.types ≡ l.initial.found.types;
  rows : l.found.rows ≡ l.initial.found.rows ++ filter (passes (conditions_of l.conditions)) (all_rows (take l.i l.chunks));
}

use Rattle.std.proofs.Common.{◌≡◌, Some, map, take}
use Rattle.vx_plan_nodes.specs.Plan.{project}
use Rattle.vx_plan_nodes.specs.Serial.{unary_rows}
use Rattle.vx_rows_views.specs.Chunks.{all_rows}
use Rattle.vx_ops_computing.specs.Given.{entry_by}
use Rattle.vx_ops_computing.proofs.projecting.add_projected.Given as goal

abbrev pub invariant-loop-i : goal.invariant-loop-i
invariant-loop-i g l = record {
  types : l.found.types ≡ l.initial.found.types;
  rows : unary_rows (project (map (entry_by (g.F.PlanFunctions.functions l.functions)) l.entries)) (all_rows (take l.i l.chunks)) ≡ Some l.found.rows;
}

use Rattle.std.proofs.Common.{◌≡◌, Some, map, take}
use Rattle.vx_plan_nodes.specs.Plan.{select}
use Rattle.vx_plan_nodes.specs.Serial.{unary_rows}
use Rattle.vx_rows_views.specs.Chunks.{all_rows}
use Rattle.vx_ops_computing.specs.Given.{filter_by}
use Rattle.vx_ops_computing.proofs.filtering.add_filtered.Given as goal

abbrev pub invariant-loop-i : goal.invariant-loop-i
invariant-loop-i g l = record {
  types : l.found.types ≡ l.initial.found.types;
  rows : unary_rows (select (map (filter_by (g.F.PlanFunctions.functions l.functions)) l.filters)) (all_rows (take l.i l.chunks)) ≡ Some l.found.rows;
}

use Rattle.std.proofs.Common.{◌≡◌, ℕ, ◌<◌, true, [], length, map, take, get_or}
use Rattle.vx_plan_nodes.specs.Serial.{filters_fit}
use Rattle.vx_ops_computing.specs.Computed.{computed_hold}
use Rattle.vx_ops_computing.specs.Given.{filter_by}
use Rattle.vx_ops_computing.proofs.filtering.computed_mask.Given as goal

abbrev pub invariant-loop-filter : goal.invariant-loop-filter
invariant-loop-filter g l = record {
  mask : l.mask.items ≡ map (computed_hold (map (filter_by (g.F.PlanFunctions.functions l.functions)) (take l.filter-index l.filters))) l.chunk.rows;
  fits : (k : ℕ) → k < length l.chunk.rows → filters_fit (map (filter_by (g.F.PlanFunctions.functions l.functions)) (take l.filter-index l.filters)) (get_or l.chunk.rows k []) ≡ true;
}

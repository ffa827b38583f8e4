use Rattle.std.proofs.Common.{◌≡◌, ◌≤◌, ◌-◌, true, length, map, take}
use Rattle.std.specs.List.{list_all}
use Rattle.vx_plan_nodes.specs.Serial.{filters_fit}
use Rattle.vx_ops_computing.specs.Computed.{computed_hold}
use Rattle.vx_ops_computing.specs.Given.{filter_by}
use Rattle.vx_ops_computing.proofs.filtering.mask_by_blocks.Given as goal

abbrev pub invariant-loop-from : goal.invariant-loop-from
invariant-loop-from g l = record {
  near : l.from ≤ length l.chunk.rows;
  mask : l.mask.items ≡ map (computed_hold (map (filter_by (g.F.PlanFunctions.functions l.functions)) l.filters)) (take l.from l.chunk.rows);
  fits : list_all (filters_fit (map (filter_by (g.F.PlanFunctions.functions l.functions)) l.filters)) (take l.from l.chunk.rows) ≡ true;
}

abbrev pub decreases-loop-from : goal.decreases-loop-from
decreases-loop-from g l = l.count - l.from

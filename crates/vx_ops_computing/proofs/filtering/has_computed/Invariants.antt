use Rattle.std.proofs.Common.{◌≡◌, true, map, take}
use Rattle.vx_rows_values.specs.Values.{Row}
use Rattle.vx_plan_nodes.specs.Functions.{Functions}
use Rattle.vx_plan_nodes.specs.Serial.{filters_fit}
use Rattle.vx_ops_computing.specs.Computed.{computed_hold}
use Rattle.vx_ops_computing.specs.Given.{filter_by}
use Rattle.vx_ops_computing.proofs.filtering.has_computed.Given as goal

abbrev pub invariant-loop-filter : goal.invariant-loop-filter
invariant-loop-filter l = record {
  hold : (given : Functions) (row : Row) → computed_hold (map (filter_by given) (take l.filter-index l.filters)) row ≡ true;
  fit : (given : Functions) (row : Row) → filters_fit (map (filter_by given) (take l.filter-index l.filters)) row ≡ true;
}

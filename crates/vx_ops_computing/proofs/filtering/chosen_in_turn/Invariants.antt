use Rattle.std.proofs.Common.{◌≡◌, map, take, filter}
use Rattle.vx_plan_nodes.specs.Functions.{Functions}
use Rattle.vx_ops_computing.specs.Computed.{comparisons_hold}
use Rattle.vx_ops_computing.specs.Given.{filter_by}
use Rattle.vx_ops_computing.proofs.filtering.chosen_in_turn.Given as goal

abbrev pub invariant-loop-filter : goal.invariant-loop-filter
invariant-loop-filter l = record {
  types : l.found.types ≡ l.initial.found.types;
  rows : (given : Functions) → l.found.rows ≡ filter (comparisons_hold (map (filter_by given) (take l.filter-index l.filters))) l.initial.found.rows;
}

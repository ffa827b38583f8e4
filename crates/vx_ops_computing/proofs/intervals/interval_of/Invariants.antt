use Rattle.std.proofs.Common.{◌≡◌, ◌<◌, ℤ, true, length, map, take}
use Rattle.vx_rows_values.specs.declared.value.ColType.TheVariants.{Int}
use Rattle.vx_rows_values.specs.Types.{type_at, fits_64}
use Rattle.vx_rows_values.specs.Values.{Row, num, value_at}
use Rattle.vx_plan_nodes.specs.Functions.{Functions}
use Rattle.vx_ops_computing.specs.Computed.{comparisons_hold}
use Rattle.vx_ops_computing.specs.Given.{filter_by}
use Rattle.vx_ops_computing.specs.Intervals.{lies_from}
use Rattle.vx_ops_computing.proofs.intervals.interval_of.Given as goal

abbrev pub invariant-loop-filter : goal.invariant-loop-filter
invariant-loop-filter l = record {
  column : l.interval.column < length l.types;
  kind : type_at l.types l.interval.column ≡ Int;
  same : (given : Functions) (row : Row) (z : ℤ) → value_at row l.interval.column ≡ num z → fits_64 z ≡ true
      → comparisons_hold (map (filter_by given) (take l.filter-index l.filters)) row ≡ lies_from l.interval.low l.interval.high z;
}

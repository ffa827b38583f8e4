use Rattle.std.proofs.Common.{◌≡◌, map, take}
use Rattle.vx_rows_values.specs.Ranges.{range_form}
use Rattle.vx_rows_values.proofs.range.copied_ranges.Given as goal

abbrev pub invariant-loop-range : goal.invariant-loop-range
invariant-loop-range l = map range_form l.copies.items ≡ map range_form (take l.range-index l.ranges)

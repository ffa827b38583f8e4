use Rattle.std.proofs.Common.{◌≡◌, ◌++◌, drop}
use Rattle.vx_rows_values.specs.Order.{in_directions}
use Rattle.vx_rows_values.proofs.order.in_directions.Given as goal

abbrev pub invariant-loop-i : goal.invariant-loop-i
invariant-loop-i l = l.order.items ++ in_directions (drop l.i l.columns) (drop l.i l.falls) ≡ in_directions l.columns l.falls

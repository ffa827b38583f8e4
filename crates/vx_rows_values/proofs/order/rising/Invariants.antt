use Rattle.std.proofs.Common.{◌≡◌, false, map, take}
use Rattle.vx_rows_values.proofs.order.rising.Given as goal

abbrev pub invariant-loop-column : goal.invariant-loop-column
invariant-loop-column l = l.order.items ≡ map (λ c. record { column = c; falling = false }) (take l.column-index l.columns)

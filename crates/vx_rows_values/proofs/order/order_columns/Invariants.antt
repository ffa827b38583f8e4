use Rattle.std.proofs.Common.{◌≡◌, map, take}
use Rattle.vx_rows_values.proofs.order.order_columns.Given as goal

abbrev pub invariant-loop-entry : goal.invariant-loop-entry
invariant-loop-entry l = l.columns.items ≡ map (λ e. e.column) (take l.entry-index l.order)

-- Columns and orders as the program holds them, where they stand.
use Rattle.std.specs.Prelude.{ℕ, List, map}
use Rattle.vx_rows_values.specs.declared.order.OrderEntry.{OrderEntry}
use Rattle.vx_rows_values.specs.Order.{order_columns}
use Rattle.vx_plan_nodes.specs.Plan.{left_order, right_order}
use Rattle.vx_plan_nodes.specs.Phases.{first_columns}
use Rattle.vx_check_rules.specs.declared.columns.ColumnsSeen as rust_columns
use Rattle.vx_check_rules.specs.declared.columns.ColumnsSeen.TheVariants as columns
use Rattle.vx_check_rules.specs.declared.order_seen.OrderSeen as rust_order
use Rattle.vx_check_rules.specs.declared.order_seen.OrderSeen.TheVariants as ordered

-- those of a list, those of an order, those of one input in the pairs of a join, or the first ones
abbrev pub columns_seen : rust_columns.ColumnsSeen → List ℕ
columns_seen (columns.Listed cols) = cols.now
columns_seen (columns.Ordered order) = order_columns order.now
columns_seen (columns.Lefts on) = map (λ x. x.0) on.now
columns_seen (columns.Rights on) = map (λ x. x.1) on.now
columns_seen (columns.First count) = first_columns count

-- an order as it stands, or that in which a join by merging has to have its left or its right input
abbrev pub order_seen : rust_order.OrderSeen → List OrderEntry
order_seen (ordered.Listed order) = order.now
order_seen (ordered.Lefts on falls) = left_order falls.now on.now
order_seen (ordered.Rights on falls) = right_order falls.now on.now

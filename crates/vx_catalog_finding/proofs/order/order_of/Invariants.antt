use Rattle.std.proofs.Common.{◌≡◌, ◌-◌, length}
use Rattle.vx_rows_values.specs.Order.{order_columns}
use Rattle.vx_rows.specs.View.{AreColumns}
use Rattle.vx_catalog_finding.specs.Found.{order_onto, order_in}
use Rattle.vx_catalog_finding.proofs.order.order_of.Given as goal

abbrev pub invariant-loop-used : goal.invariant-loop-used
invariant-loop-used l = record {
  columns : AreColumns (length l.rows.types) (order_columns l.order.items);
  so_far : order_onto (length l.rows.types) (length l.rows.types - l._used) l.rows.rows l.order.items ≡ order_in (length l.rows.types) l.rows.rows;
}

use Rattle.std.proofs.Common.{◌∙◌, ℕ, List, length, ap, sym, subst}
use Rattle.vx_rows_values.specs.Order.{order_columns}
use Rattle.vx_rows_values.proofs.Compare.{rising-columns}
use Rattle.vx_rows.specs.View.{AreColumns}
use Rattle.vx_rows.proofs.table.Table.sorted_clash.Goals as goal

pub sorted_positions-requires : goal.sorted_positions-requires
sorted_positions-requires c =
    let cols = c.args.cols.now in
    let is = ap order_columns (c.as_slice.ensures.value ∙ c.in_ok-order.ensures) ∙ rising-columns cols in
    subst (λ (cs : List ℕ). AreColumns (length c.args.self.now.types) cs) (sym is) c.requires

use Rattle.std.proofs.Common.{ap, ◌∙◌}
use Rattle.std.specs.Prelude.{List}
use Rattle.vx_rows_values.specs.Values.{Row}
use Rattle.vx_rows.specs.View.{RowsView}
use Rattle.vx_rows.proofs.Fill.{still_rows, same_rows}
use Rattle.vx_rows.proofs.table.Table.reserve.Goals as goal

pub invariant_of-self : goal.invariant_of-self
invariant_of-self c = still_rows _ _ _ _ c.self.invariant c.reserve_rows.ensures

pub returns : goal.returns
returns c =
    let s = c.self.inside in
    ap (λ (rows : List Row). let t : RowsView = record { types = s.types.items; rows = rows } in t) (same_rows s.count s.columns.items _ c.reserve_rows.ensures) ∙ c.self.view_is

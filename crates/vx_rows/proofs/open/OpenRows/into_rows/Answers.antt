use Rattle.vx_rows.proofs.Fill.{all_fit}
use Rattle.vx_rows.proofs.open.OpenRows.into_rows.Goals as goal

pub returns-clause-fit : goal.returns-clause-fit
returns-clause-fit c =
    let s = c.self.inside in
    let are = c.self.invariant.rows in
    rw (c.of_columns.ensures.types, c.of_columns.ensures.rows) (all_fit s.types.items s.count s.columns.items are.kinds are.held)

use Rattle.vx_rows.proofs.Grown.{seen, fit_seen}
use Rattle.vx_rows.proofs.table.Table.types.Goals as goal

pub returns-clause-fit : goal.returns-clause-fit
returns-clause-fit c = fit_seen (seen c.self.view_is c.self.invariant)

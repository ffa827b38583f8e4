use Rattle.std.proofs.Common.{sym}
use Rattle.vx_rows.proofs.Grown.{seen, count_seen, fit_seen}
use Rattle.vx_rows.proofs.table.Table.count_fitting.Goals as goal

pub returns-clause-count : goal.returns-clause-count
returns-clause-count c = sym (count_seen (seen c.self.view_is c.self.invariant))

pub returns-clause-fit : goal.returns-clause-fit
returns-clause-fit c = fit_seen (seen c.self.view_is c.self.invariant)

use Rattle.std.proofs.Common.{sym}
use Rattle.vx_rows.proofs.Grown.{seen, count_seen}
use Rattle.vx_rows.proofs.table.Table.len.Goals as goal

pub returns : goal.returns
returns c = sym (count_seen (seen c.self.view_is c.self.invariant))

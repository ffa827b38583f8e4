use Rattle.std.proofs.Common.{sym}
use Rattle.vx_rows.proofs.Fill.{count_is}
use Rattle.vx_rows.proofs.OpenFacts.{open_rows}
use Rattle.vx_rows.proofs.open.OpenRows.len.Goals as goal

pub returns : goal.returns
returns c =
    let s = c.self.inside in
    sym (count_is _ _ _ (open_rows c.args.self.now s.types.items s.count s.filled s.columns.items c.self.view_is))

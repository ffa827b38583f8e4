use Rattle.std.proofs.Common.{arith, ap, ◌∙◌, sym, take}
use Rattle.std.proofs.lemmas.List.{take_all}
use Rattle.vx_rows.specs.Columns.{row_of}
use Rattle.vx_rows.proofs.Below.{take-each_below}
use Rattle.vx_rows.proofs.Fill.{rows_are}
use Rattle.vx_rows.proofs.Grown.{seen, count_seen}
use Rattle.vx_rows.proofs.table.Table.truncate.Goals as goal

pub returns-then-n-self-clause-rows : goal.returns-then-n-self-clause-rows
returns-then-n-self-clause-rows c =
    let s = c.self.inside in
    sym (take-each_below s.count c.args.n (row_of s.columns.items) (omega arith)) ∙ ap (take c.args.n) (rows_are _ _ _ _ c.self.view_is)

pub returns-else-n-self-clause-rows : goal.returns-else-n-self-clause-rows
returns-else-n-self-clause-rows c = let n = count_seen (seen c.self.view_is c.self.invariant) in sym (take_all c.args.n c.args.self.now.rows (omega arith))

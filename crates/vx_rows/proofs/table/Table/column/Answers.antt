use Rattle.std.proofs.Common.{◌<◌, arith, ap, ◌∙◌, sym, length, pos, get_or}
use Rattle.vx_rows_values.specs.Values.{num}
use Rattle.vx_rows.specs.Columns.{entry, size}
use Rattle.vx_rows.proofs.Fill.{map_at}
use Rattle.vx_rows.proofs.Grown.{seen, width_seen, long_seen, row_seen}
use Rattle.vx_rows.proofs.table.Table.column.Goals as goal

pub returns-clause-long : goal.returns-clause-long
returns-clause-long c =
    let s = seen c.self.view_is c.self.invariant in
    let columns = c.self.inside.columns.items in
    let near : c.args.j < length columns = omega (arith, width_seen s, c.requires) in
    let e = map_at size columns c.args.j c.index.result.now 0 near c.index.ensures in
    omega (arith, e, long_seen s c.args.j near)

pub returns-clause-values : goal.returns-clause-values
returns-clause-values c =
    let s = seen c.self.view_is c.self.invariant in
    let columns = c.self.inside.columns.items in
    let near : c.args.j < length columns = omega (arith, width_seen s, c.requires) in
    λ k l.
    let e = map_at (λ x. entry x k) columns c.args.j c.index.result.now (num (pos 0)) near c.index.ensures in
    sym e ∙ ap (λ r. get_or r c.args.j (num (pos 0))) (row_seen s k l)

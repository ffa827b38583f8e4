use Rattle.std.proofs.Common.{◌<◌, arith, ap, ◌∙◌, sym, length, pos, get_or}
use Rattle.vx_rows_values.specs.Values.{num}
use Rattle.vx_rows.specs.Columns.{entry, size}
use Rattle.vx_rows.proofs.Fill.{map_at}
use Rattle.vx_rows.proofs.Grown.{seen, width_seen, long_seen, row_seen}
use Rattle.vx_rows.proofs.table.Table.cell.Goals as goal

pub get-requires : goal.get-requires
get-requires c =
    let s = seen c.self.view_is c.self.invariant in
    let columns = c.self.inside.columns.items in
    let near : c.args.column < length columns = omega (arith, width_seen s, c.requires.column) in
    let e = map_at size columns c.args.column c.index.result.now 0 near c.index.ensures in
    omega (arith, e, long_seen s c.args.column near, c.requires.row)

pub returns : goal.returns
returns c =
    let s = seen c.self.view_is c.self.invariant in
    let columns = c.self.inside.columns.items in
    let near : c.args.column < length columns = omega (arith, width_seen s, c.requires.column) in
    let e = map_at (λ x. entry x c.args.i) columns c.args.column c.index.result.now (num (pos 0)) near c.index.ensures in
    c.get.ensures ∙ (sym e ∙ ap (λ l. get_or l c.args.column (num (pos 0))) (row_seen s c.args.i c.requires.row))

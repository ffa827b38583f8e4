use Rattle.std.proofs.Common.{◌≡◌, ◌≤◌, min, length, sym, ap, ◌∙◌, arith}
use Rattle.vx_rows.specs.View.{row}
use Rattle.vx_catalog_formats.proofs.RowFacts.{row_length}
use Rattle.vx_catalog_formats.proofs.WidthFacts.{widen_done}
use Rattle.vx_catalog_formats.proofs.widths.widen.Goals as goal

pub returns : goal.returns
returns c =
    let chunk = c.args.chunk.now in
    let r = row chunk c.args.i in
    let widths = c.loop-column.widths in
    let long : length r ≡ length chunk.types = row_length chunk.types chunk.rows c.args.i c.types.ensures.fit c.requires in
    let types : length c.types.result.now ≡ length chunk.types = ap length c.types.ensures.types in
    let past : min (length widths) (length r) ≤ c.loop-column.column = omega (arith, c.min-column-end.ensures, c.loop-column-test.false, c.loop-column.auto.widths, long, types) in
    sym (widen_done widths r c.loop-column.column past) ∙ c.loop-column.invariant

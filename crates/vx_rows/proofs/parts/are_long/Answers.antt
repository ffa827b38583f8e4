use Rattle.std.proofs.Common.{◌≤◌, arith}
use Rattle.vx_rows.specs.Columns.{size}
use Rattle.vx_rows.proofs.PartFacts.{long_next}
use Rattle.vx_rows.proofs.parts.are_long.Goals as goal

pub loop-column-preserved : goal.loop-column-preserved
loop-column-preserved c =
    let long : c.args.count ≤ size c.column-item.result = omega (arith, c.len.ensures, c.if-len-count.false) in
    long_next c.args.count c.loop-column.column-index c.args.columns.now c.column-item.result c.loop-column-test.true c.column-item.is long c.loop-column.invariant

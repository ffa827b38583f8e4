use Rattle.std.proofs.Common.{arith, ◌<◌, length}
use Rattle.vx_match_merging.proofs.RiseFacts.{rise-across}
use Rattle.vx_match_merging.proofs.key_run.rise_across.Goals as goal

pub returns-else-from-len : goal.returns-else-from-len
returns-else-from-len c = λ front back.
    let rows = c.args.rows.now.rows in
    let some = c.if-from-len.false in
    let long = c.len.ensures in
    let near : c.args.from < length rows = omega (arith, some, long) in
    rise-across c.args.order.now rows c.args.from c.rises_at.result near back (c.rises_at.ensures front)

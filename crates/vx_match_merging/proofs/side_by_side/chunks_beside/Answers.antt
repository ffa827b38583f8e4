use Rattle.std.proofs.Common.{arith, ◌∙◌, ap, length}
use Rattle.vx_rows_views.proofs.Facts.{length-slice}
use Rattle.vx_match_merging.proofs.side_by_side.chunks_beside.Goals as goal

pub beside-requires : goal.beside-requires
beside-requires c =
    let cut = ap length c.in_ok-left.ensures.rows ∙ length-slice c.args.left.now.rows c.args.from c.args.to c.requires.order c.requires.there in
    let many = c.requires.many in
    let same = ap (λ r. length r.rows) c.in_ok-right.ensures in
    omega (arith, cut, many, same)

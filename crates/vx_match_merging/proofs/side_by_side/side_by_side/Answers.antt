use Rattle.std.proofs.Common.{arith, ◌∙◌, ◌+◌, ◌≤◌, ap, length}
use Rattle.vx_rows_views.proofs.Facts.{length-slice}
use Rattle.vx_match_merging.proofs.BesideFacts.{chunk-within, left-chunk}
use Rattle.vx_match_merging.proofs.side_by_side.side_by_side.Goals as goal

pub overflow_add-to : goal.overflow_add-to
overflow_add-to c =
    let ts = c.chunks-chunks.result.now in
    let near = c.loop-i-test.true in
    let within = chunk-within ts c.loop-i.i c.index-chunks-i.result near c.index-chunks-i.is in
    let all = ap length c.chunks-chunks.ensures.rows in
    let many = c.requires.many in
    let count = c.len-count.ensures in
    let small = c.len-count.type_inv in
    let from = c.loop-i.invariant.from in
    let more = c.len.ensures in
    omega (arith, within, all, many, count, small, from, more)

pub slice-requires-clause-there : goal.slice-requires-clause-there
slice-requires-clause-there c =
    let ts = c.chunks-chunks.result.now in
    let near = c.loop-i-test.true in
    let within = chunk-within ts c.loop-i.i c.index-chunks-i.result near c.index-chunks-i.is in
    let all = ap length c.chunks-chunks.ensures.rows in
    let many = c.requires.many in
    let from = c.loop-i.invariant.from in
    let more = c.len.ensures in
    omega (arith, within, all, many, from, more)

pub push_beside-requires-clause-many : goal.push_beside-requires-clause-many
push_beside-requires-clause-many c =
    let ts = c.chunks-chunks.result.now in
    let near = c.loop-i-test.true in
    let within = chunk-within ts c.loop-i.i c.index-chunks-i.result near c.index-chunks-i.is in
    let all = ap length c.chunks-chunks.ensures.rows in
    let many = c.requires.many in
    let from = c.loop-i.invariant.from in
    let more = c.len.ensures in
    let there : c.loop-i.from + c.len.result ≤ length c.args.right.now.rows = omega (arith, within, all, many, from, more) in
    let cut = ap length c.in_ok-part.ensures.rows ∙ length-slice c.args.right.now.rows c.loop-i.from (c.loop-i.from + c.len.result) (omega arith) there in
    omega (arith, cut, more)

pub loop-i-preserved : goal.loop-i-preserved
loop-i-preserved c =
    let ts = c.chunks-chunks.result.now in
    let t = c.index-chunks-i.result in
    let inv = c.loop-i.invariant in
    let near = c.loop-i-test.true in
    let within = chunk-within ts c.loop-i.i t near c.index-chunks-i.is in
    let all = ap length c.chunks-chunks.ensures.rows in
    let many = c.requires.many in
    let from = inv.from in
    let more = c.len.ensures in
    let there : c.loop-i.from + c.len.result ≤ length c.args.right.now.rows = omega (arith, within, all, many, from, more) in
    let r = left-chunk c.args.right.now.rows ts c.loop-i.i c.loop-i.from (c.loop-i.from + c.len.result) t c.loop-i.joined.rows c.push_beside.new.joined.rows c.in_ok-part.part.rows near c.index-chunks-i.is from (ap (λ n. c.loop-i.from + n) more) there
    c.in_ok-part.ensures.rows inv.rows c.in_ok-push_beside.ensures.rows in
    record { types = c.in_ok-push_beside.ensures.types ∙ inv.types; from = r.0; rows = r.1 }

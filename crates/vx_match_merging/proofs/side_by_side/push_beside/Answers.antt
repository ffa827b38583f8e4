use Rattle.std.proofs.Common.{arith, ◌∙◌, ◌+◌, ◌≤◌, ◌++◌, ap, length}
use Rattle.vx_match_merging.proofs.BesideFacts.{chunk-within, right-chunk}
use Rattle.vx_match_merging.proofs.side_by_side.push_beside.Goals as goal

pub overflow_add-to : goal.overflow_add-to
overflow_add-to c =
    let ts = c.chunks-chunks.result.now in
    let near = c.loop-i-test.true in
    let within = chunk-within ts c.loop-i.i c.index-chunks-i.result near c.index-chunks-i.is in
    let all = ap length c.chunks-chunks.ensures.rows in
    let many = c.requires.many in
    let count = c.len-count.ensures in
    let small = c.len-count.type_inv in
    let from = c.loop-i.invariant.from in
    let more = c.len.ensures in
    omega (arith, within, all, many, count, small, from, more)

pub chunks_beside-requires-clause-there : goal.chunks_beside-requires-clause-there
chunks_beside-requires-clause-there c =
    let ts = c.chunks-chunks.result.now in
    let near = c.loop-i-test.true in
    let within = chunk-within ts c.loop-i.i c.index-chunks-i.result near c.index-chunks-i.is in
    let all = ap length c.chunks-chunks.ensures.rows in
    let many = c.requires.many in
    let from = c.loop-i.invariant.from in
    let more = c.len.ensures in
    omega (arith, within, all, many, from, more)

pub loop-i-preserved : goal.loop-i-preserved
loop-i-preserved c =
    let ts = c.chunks-chunks.result.now in
    let t = c.index-chunks-i.result in
    let inv = c.loop-i.invariant in
    let near = c.loop-i-test.true in
    let within = chunk-within ts c.loop-i.i t near c.index-chunks-i.is in
    let all = ap length c.chunks-chunks.ensures.rows in
    let many = c.requires.many in
    let from = inv.from in
    let more = c.len.ensures in
    let there : c.loop-i.from + c.len.result ≤ length c.args.left.now.rows = omega (arith, within, all, many, from, more) in
    let r = right-chunk c.args.left.now.rows ts c.loop-i.i c.loop-i.from (c.loop-i.from + c.len.result) t c.args.joined.now.rows c.loop-i.joined.rows c.push.new.self.rows near c.index-chunks-i.is from (ap (λ n. c.loop-i.from + n) more) there
    inv.rows (c.in_ok-push.ensures.ok ∙ ap (λ xs. c.loop-i.joined.rows ++ xs) c.in_ok-chunks_beside.ensures.rows) in
    record { types = c.in_ok-push.ensures.types ∙ inv.types; from = r.0; rows = r.1 }

use Rattle.std.proofs.Common.{arith, ap, length}
use Rattle.vx_match_join.proofs.PairFacts.{within-next}
use Rattle.vx_match_join.proofs.join.index_rows.Goals as goal

pub index_chunk-requires-clause-room : goal.index_chunk-requires-clause-room
index_chunk-requires-clause-room c =
    let ts = c.chunks-chunks.result.now in
    let t = c.index-chunks-i.result in
    let all = ap length c.chunks-chunks.ensures.rows in
    let within = within-next ts c.loop-i.i (length t.rows) c.loop-i.first t c.loop-i-test.true c.index-chunks-i.is c.loop-i.invariant.first (omega arith) in
    omega (arith, within, all, c.len-count.ensures, c.len-count.type_inv)

pub overflow_add-first : goal.overflow_add-first
overflow_add-first c =
    let ts = c.chunks-chunks.result.now in
    let t = c.index-chunks-i.result in
    let all = ap length c.chunks-chunks.ensures.rows in
    let within = within-next ts c.loop-i.i (length t.rows) c.loop-i.first t c.loop-i-test.true c.index-chunks-i.is c.loop-i.invariant.first (omega arith) in
    omega (arith, within, all, c.len-count.ensures, c.len-count.type_inv, c.len-first.ensures)

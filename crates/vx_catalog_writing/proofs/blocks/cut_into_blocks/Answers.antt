use Rattle.std.proofs.Common.{arith}
use Rattle.vx_catalog_writing.proofs.BlockFacts.{block_more}
use Rattle.vx_catalog_writing.proofs.blocks.cut_into_blocks.Goals as goal

pub cut-preserved : goal.cut-preserved
cut-preserved c =
    let there = c.cut.invariant.there in
    let test = c.cut-test.true in
    let len = c.len-len.ensures in
    let least = c.min.ensures in
    record {
      there = omega (arith, there, test, len, least);
      rows = rw c.in_ok-push.ensures.items (block_more c.cut.blocks.items _ c.args.rows.rows c.cut.from _ (omega arith) (omega (arith, there, test, len, least)) c.cut.invariant.rows c.in_ok-slice.ensures.rows);
    }

use Rattle.std.proofs.Common.{◌∷◌, []}
use Rattle.vx_catalog.proofs.KeyNumberFacts.{chunks-more}
use Rattle.vx_catalog.proofs.key_numbers.push_chunks.Goals as goal

pub loop-i-preserved : goal.loop-i-preserved
loop-i-preserved c =
    chunks-more _ _ _ (c.args.column ∷ []) c.args.chunks.now c.loop-i.i c.index-chunks-i.result c.loop-i-test.true c.index-chunks-i.is c.loop-i.invariant c.in_ok-push_chunk.ensures

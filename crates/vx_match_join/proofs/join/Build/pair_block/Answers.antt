use Rattle.std.proofs.Common.{arith, ◌≡◌, ◌∙◌, subst}
use Rattle.vx_plan_nodes.specs.Serial.{group_keys}
use Rattle.vx_match_join.specs.Build.{Built}
use Rattle.vx_match_join.proofs.PairFacts.{block-numbers, block-long}
use Rattle.vx_match_join.proofs.join.Build.pair_block.Goals as goal

pub pair_numbers-requires : goal.pair_numbers-requires
pair_numbers-requires c =
    let within = c.block_end-to.ensures.within in
    block-long c.args.columns.now c.self.inside.keys c.args.chunk.now.rows c.in_ok-block.block.rows c.as_slice.result.now c.args.from c.block_end-to.result c.block_end-to.ensures.more (omega (arith, within, c.len.ensures)) c.in_ok-block.ensures.rows
    (c.as_slice.ensures.value ∙ c.in_ok-numbers.ensures)

pub returns-clause-pairs : goal.returns-clause-pairs
returns-clause-pairs c = λ old.
    let b = c.args.self.now in
    let within = c.block_end-to.ensures.within in
    let keys-are : c.self.inside.keys ≡ group_keys b.columns b.rows = subst (λ (v : Built). c.self.inside.keys ≡ group_keys v.columns v.rows) c.self.view_is c.self.invariant.keys_are in
    c.in_ok-behind.ensures.pairs c.args.columns.now c.args.chunk.now.rows (omega (arith, within, c.len.ensures))
    (block-numbers c.args.columns.now b.columns b.rows c.self.inside.keys c.args.chunk.now.rows c.in_ok-block.block.rows c.as_slice.result.now c.args.from c.block_end-to.result keys-are c.in_ok-block.ensures.rows (c.as_slice.ensures.value ∙ c.in_ok-numbers.ensures))
    old

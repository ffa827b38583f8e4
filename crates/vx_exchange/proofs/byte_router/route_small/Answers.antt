use Rattle.std.proofs.Common.{rules, arith, ◌+◌, ◌%◌, ℕ, List, ap, ◌∙◌, get_or, of_z, pos, length-set}
use Rattle.std.specs.List.{fold}
use Rattle.std.specs.Int.{w32, w64, to_be_bytes, cast_unsigned}
use Rattle.std.proofs.lemmas.Int.{to_z-of_z}
use Rattle.vx_plan_nodes.specs.ByteRouter.{hash_byte}
use Rattle.vx_exchange.proofs.BlockFacts.{consumers-more}
use Rattle.vx_exchange.proofs.ByteFacts.{masked}
use Rattle.vx_exchange.proofs.byte_router.route_small.Goals as goal

pub loop-i-preserved : goal.loop-i-preserved
loop-i-preserved c =
    let inv = c.loop-i.invariant in
    let i = c.loop-i.i in
    let keys = c.args.keys.now in
    let zeros = c.args.zeros in
    let mask = c.args.mask in
    let z = get_or keys i (pos 0) in
    let is = c.cast_unsigned.ensures ∙ ap (of_z w64) (to_z-of_z w64 z (search rules)) in
    let four = c.hash_four.ensures ∙ ap (λ (b : List ℕ). hash_byte (hash_byte (hash_byte (hash_byte zeros (get_or b 0 0)) (get_or b 1 0)) (get_or b 2 0)) (get_or b 3 0)) c.to_be_bytes-b.ensures in
    let hash = four ∙ ap (λ x. fold hash_byte zeros (to_be_bytes w32 x)) is in
    let found = masked c.hash_four.result mask c.requires.power ∙ ap (λ h. h % (mask + 1)) hash in
    record {
      len = length-set c.loop-i.consumers i _ ∙ inv.len;
      done = consumers-more (λ key. fold hash_byte zeros (to_be_bytes w32 (cast_unsigned w64 key)) % (mask + 1)) keys c.loop-i.consumers i (pos 0) _ (omega arith) (omega arith) inv.done found;
    }

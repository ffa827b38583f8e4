use Rattle.std.proofs.Common.{rules, arith, ◌<◌, ◌^◌, ℕ, List, ap, ◌∙◌, get_or, of_z}
use Rattle.std.specs.List.{fold}
use Rattle.std.specs.Int.{w64, to_be_bytes}
use Rattle.std.proofs.lemmas.Int.{to_z-of_z}
use Rattle.vx_plan_nodes.specs.ByteRouter.{hash_byte}
use Rattle.vx_exchange.proofs.ByteFacts.{small-hash}
use Rattle.vx_exchange.proofs.byte_router.hash_small.Goals as goal

pub returns : goal.returns
returns c =
    let bits = c.cast_unsigned-bits.result in
    let start = c.args.start in
    let zeros = c.args.zeros in
    let is = c.cast_unsigned-bits.ensures ∙ ap (of_z w64) (to_z-of_z w64 c.args.n (search rules)) in
    let small : bits < 2 ^ 32 = omega (arith, c.if-bits-gt4294967295.false) in
    let four = c.hash_four.ensures ∙ ap (λ (b : List ℕ). hash_byte (hash_byte (hash_byte (hash_byte zeros (get_or b 0 0)) (get_or b 1 0)) (get_or b 2 0)) (get_or b 3 0)) c.to_be_bytes-b.ensures in
    small-hash start zeros bits c.hash_four.result small c.requires four ∙ ap (λ x. fold hash_byte start (to_be_bytes w64 x)) is

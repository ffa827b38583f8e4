use Rattle.std.proofs.Common.{rules, arith, ◌<◌, ◌^◌, ap, ◌∙◌, get_or, of_z, pos, take_all, All, subst, nat_le}
use Rattle.std.specs.Int.{w64, cast_unsigned}
use Rattle.std.proofs.lemmas.Bool.{and_parts, leb-true}
use Rattle.std.proofs.lemmas.Int.{to_z-of_z}
use Rattle.std.proofs.lemmas.List.Elements.{All-more}
use Rattle.vx_exchange.proofs.byte_router.are_small.Goals as goal

pub loop-key-preserved : goal.loop-key-preserved
loop-key-preserved c = λ set.
    let keys = c.args.keys.now in
    let i = c.loop-key.key-index in
    let z = get_or keys i (pos 0) in
    let bits = c.cast_unsigned.result in
    let two = and_parts c.loop-key.small (nat_le bits 4294967295) set in
    let is = c.cast_unsigned.ensures ∙ ap (of_z w64) (to_z-of_z w64 z (search rules)) in
    let low = leb-true bits 4294967295 two.1 in
    let here : cast_unsigned w64 z < 2 ^ 32 = omega (arith, low, is) in
    All-more (λ key. cast_unsigned w64 key < 2 ^ 32) keys i (pos 0) (omega arith) (c.loop-key.invariant two.0) here

pub returns : goal.returns
returns c = λ set.
    let keys = c.args.keys.now in
    let all = take_all c.loop-key.key-index keys (omega arith) in
    subst (All (λ key. cast_unsigned w64 key < 2 ^ 32)) all (c.loop-key.invariant set)

use Rattle.std.proofs.Common.{rules, arith, ◌≡◌, ◌+◌, ◌-◌, ◌%◌, ◌∷◌, [], count_ones, sym, ap, subst, ◌∙◌, get_or, length-set, pos}
use Rattle.std.specs.List.{fold}
use Rattle.std.specs.Int.{w32, w64, to_be_bytes, cast_unsigned, IsPowerOfTwo}
use Rattle.std.proofs.lemmas.Bool.{eqb-true}
use Rattle.std.proofs.lemmas.Int.{to_z-of_z}
use Rattle.vx_rows_values.specs.Values.{num}
use Rattle.vx_plan_nodes.specs.ByteRouter.{hash_byte, byte_route}
use Rattle.vx_exchange.proofs.BlockFacts.{consumers-more}
use Rattle.vx_exchange.proofs.ByteFacts.{number-hash, small-route, power-one-bit, map-alike}
use Rattle.vx_exchange.proofs.byte_router.ByteRouterRouter.route_numbers.Goals as goal

pub loop-i-preserved : goal.loop-i-preserved
loop-i-preserved c =
    let inv = c.loop-i.invariant in
    let i = c.loop-i.i in
    let keys = c.args.keys.now in
    let name = c.args.name.now in
    let z = get_or keys i (pos 0) in
    let start = c.hash_byte-start.result in
    let same = to_z-of_z w64 z (search rules) in
    let is = c.hash_small.ensures ∙ ap (λ k. fold hash_byte start (to_be_bytes w64 (cast_unsigned w64 k))) same in
    let found = c.of.ensures ∙ ap (λ n. c.hash_small.result % n) c.by-remainders.ensures in
    let hash = number-hash name z c.hash_name.result start c.hash_small.result c.hash_name.ensures c.hash_byte-start.ensures is in
    record {
      len = length-set c.loop-i.consumers i _ ∙ inv.len;
      done = consumers-more (λ k. byte_route name (num k ∷ []) c.args.n) keys c.loop-i.consumers i (pos 0) _ (omega arith) (omega arith) inv.done (found ∙ ap (λ h. h % c.args.n) hash);
    }

pub route_small-requires-clause-power : goal.route_small-requires-clause-power
route_small-requires-clause-power c =
    let n = c.args.n in
    let same : n - 1 + 1 ≡ n = omega arith in
    subst IsPowerOfTwo (sym same) (power-one-bit n (eqb-true (count_ones n) 1 (search rules)))

pub returns-then-are_small : goal.returns-then-are_small
returns-then-are_small c =
    let n = c.args.n in
    let name = c.args.name.now in
    let zeros = c.hash_four-zeros.result in
    let keys = c.args.keys.now in
    let same : n - 1 + 1 ≡ n = omega arith in
    c.route_small.ensures ∙ map-alike (λ z. fold hash_byte zeros (to_be_bytes w32 (cast_unsigned w64 z)) % (n - 1 + 1)) (λ z. byte_route name (num z ∷ []) n) keys (λ k d near.
    small-route name (get_or keys k d) c.hash_name.result c.hash_byte-start.result zeros (n - 1 + 1) n c.hash_name.ensures c.hash_byte-start.ensures c.hash_four-zeros.ensures same (c.are_small.ensures (search rules) k d near))

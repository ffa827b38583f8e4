use Rattle.std.proofs.Common.{ℕ, ◌<◌, ◌++◌, ◌∷◌, [], ap, sym, ◌∙◌, map, length, take, append_assoc, arith, rules, w64}
use Rattle.std.proofs.lemmas.Int.{to_z-of_z}
use Rattle.std.proofs.lemmas.List.{map_more}
use Rattle.vx_rows_values.specs.Values.{Row, value_at}
use Rattle.vx_plan_nodes.specs.Routes.{range_consumer}
use Rattle.vx_match_keys.specs.Columns.{number_key}
use Rattle.vx_exchange.proofs.routes.push_of_ranges.Goals as goal

pub loop-i-preserved : goal.loop-i-preserved
loop-i-preserved c =
    let f : Row → ℕ = λ key. range_consumer c.args.ranges.now (value_at key 0) c.args.n in
    let keys = c.args.keys.now in
    let i = c.loop-i.i in
    let old = c.args.found.now.items in
    let near : i < length keys = omega (arith, c.loop-i-test.true, c.len-i-end.ensures) in
    let key-is = ap number_key (to_z-of_z w64 c.get.result (search rules)) ∙ c.get.ensures in
    let k = c.consumer.result in
    c.in_ok-push.ensures.items
    ∙ (ap (λ xs. xs ++ k ∷ []) c.loop-i.invariant
    ∙ (append_assoc old (map f (take i keys)) (k ∷ [])
    ∙ ap (λ xs. old ++ xs) (ap (λ x. map f (take i keys) ++ x ∷ []) (c.consumer.ensures ∙ ap f key-is) ∙ sym (map_more f keys i [] near))))

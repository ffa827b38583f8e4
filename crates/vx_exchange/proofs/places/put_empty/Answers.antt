use Rattle.std.proofs.Common.{ℕ, List, ◌≡◌, ◌+◌, ◌<◌, ◌++◌, [], ◌∷◌, arith, ap, ◌∙◌, length, take, Vec, Global}
use Rattle.std.proofs.lemmas.List.{length-map, map-set, take_more_set}
use Rattle.vx_rows.proofs.Splice.{on_ok}
use Rattle.vx_exchange.proofs.PlaceFacts.{lists}
use Rattle.vx_exchange.proofs.places.put_empty.Goals as goal

pub returns-then-consumer-len-clause-ok : goal.returns-then-consumer-len-clause-ok
returns-then-consumer-len-clause-ok c =
    let f : Vec ℕ Global → List ℕ = λ v. v.items in
    let xs = c.args.places.now.items in
    let j = c.args.consumer in
    let n : length (lists xs) ≡ length xs = length-map xs f in
    let near : j < length (lists xs) = omega (arith, n, c.if-consumer-len.true, c.len.ensures, c.args.places.now.ok.0) in
    on_ok c.empty_list.result
    (λ (e : c.empty_list.new.list.items ≡ []).
    ap (λ l. take (j + 1) l) (map-set f xs j c.empty_list.new.list) ∙ (take_more_set (lists xs) j (c.empty_list.new.list.items) near ∙ ap (λ x. take j (lists xs) ++ x ∷ []) e))
    c.empty_list.ensures

use Rattle.std.proofs.Common.{◌≡◌, ◌+◌, ◌<◌, ◌++◌, [], ◌∷◌, arith, ap, ◌∙◌, length, map, take}
use Rattle.std.proofs.lemmas.List.{length-map, map-set, take_more_set}
use Rattle.vx_rows_values.specs.ValueView.{val_of, cell_val}
use Rattle.vx_rows.proofs.Splice.{on_ok}
use Rattle.vx_rows.proofs.table.put_key.Goals as goal

pub returns-then-j-len-clause-ok : goal.returns-then-j-len-clause-ok
returns-then-j-len-clause-ok c =
    let xs = c.args.key.now.items in
    let j = c.args.j in
    let n : length (map val_of xs) ≡ length xs = length-map xs val_of in
    let near : j < length (map val_of xs) = omega (arith, n, c.if-j-len.true, c.len.ensures, c.args.key.now.ok.0) in
    on_ok c.set.result
    (λ (e : val_of c.set.new.self ≡ cell_val c.args.cell).
    ap (λ l. take (j + 1) l) (map-set val_of xs j c.set.new.self) ∙ (take_more_set (map val_of xs) j (val_of c.set.new.self) near ∙ ap (λ x. take j (map val_of xs) ++ x ∷ []) e))
    c.set.ensures

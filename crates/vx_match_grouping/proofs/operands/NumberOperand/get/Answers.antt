use Rattle.std.specs.Prelude.{pos}
use Rattle.std.proofs.Common.{◌≡◌, ◌∷◌, [], ◌∙◌, rules, arith, sym, ap, length, get_or, w64}
use Rattle.std.proofs.lemmas.Int.{to_z-of_z}
use Rattle.std.proofs.lemmas.List.{length-map, get_or-map}
use Rattle.vx_rows_values.specs.Values.{num, pick, value_at}
use Rattle.vx_match_keys.specs.Columns.{number_key}
use Rattle.vx_match_grouping.proofs.operands.NumberOperand.get.Goals as goal

pub returns : goal.returns
returns c =
    let o = c.args.self.now in
    let numbers = o.numbers.now in
    let rows = o.chunk.now.rows in
    let i = c.args.i in
    let x = get_or numbers i (pos 0) in
    let picked = pick (o.column ∷ []) in
    let long : length numbers ≡ length rows = sym (length-map numbers number_key) ∙ (ap length o.same ∙ length-map rows picked) in
    let keys : number_key x ≡ picked (get_or rows i []) =
    sym (get_or-map number_key numbers i (pos 0) [] (omega (arith, long, c.requires)))
    ∙ (ap (λ l. get_or l i []) o.same ∙ get_or-map picked rows i [] [] c.requires) in
    ap num (to_z-of_z w64 x (search rules)) ∙ ap (λ r. value_at r 0) keys

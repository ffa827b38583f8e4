use Rattle.std.proofs.Common.{◌<◌, ◌++◌, ◌∷◌, [], arith, rules, sym, ap, ◌∙◌, length, w64}
use Rattle.std.proofs.lemmas.Int.{to_z-of_z}
use Rattle.std.specs.List.{position_or_len}
use Rattle.std.proofs.lemmas.List.{map_more}
use Rattle.vx_rows_values.specs.Values.{Row, row_eq}
use Rattle.vx_match_keys.specs.Columns.{number_key}
use Rattle.vx_match_keys.proofs.hashed_keys.HashedKeys.find_all.Goals as goal

pub loop-i-preserved : goal.loop-i-preserved
loop-i-preserved c =
    let keys = c.args.column.now in
    let f = λ (k : Row). position_or_len (row_eq k) c.args.self.now in
    let i = c.loop-i.i in
    let near : i < length keys = omega (arith, c.loop-i-test.true, c.len-i-end.ensures) in
    let key-is = ap number_key (to_z-of_z w64 c.get.result (search rules)) ∙ c.get.ensures in
    c.in_ok-push.ensures.items
    ∙ ((λ j. c.loop-i.invariant j ++ (c.number_or_next-number.ensures ∙ ap f key-is) j ∷ []) ∙ sym (map_more f keys i [] near))

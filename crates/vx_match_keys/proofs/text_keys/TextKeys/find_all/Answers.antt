use Rattle.std.proofs.Common.{◌<◌, ◌++◌, ◌∷◌, [], arith, sym, ap, ◌∙◌, length}
use Rattle.std.specs.List.{position_or_len}
use Rattle.std.proofs.lemmas.List.{map_more}
use Rattle.vx_rows_values.specs.Values.{Row, row_eq}
use Rattle.vx_match_keys.proofs.text_keys.TextKeys.find_all.Goals as goal

pub loop-i-preserved : goal.loop-i-preserved
loop-i-preserved c =
    let keys = c.args.column.now in
    let f = λ (k : Row). position_or_len (row_eq k) c.args.self.now in
    let i = c.loop-i.i in
    let near : i < length keys = omega (arith, c.loop-i-test.true, c.len-i-end.ensures) in
    c.in_ok-push.ensures.items
    ∙ ((λ j. c.loop-i.invariant j ++ (c.number_or_next-number.ensures ∙ ap f c.get.ensures) j ∷ []) ∙ sym (map_more f keys i [] near))

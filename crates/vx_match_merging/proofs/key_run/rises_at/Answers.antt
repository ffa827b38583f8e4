use Rattle.std.proofs.Common.{arith, ◌≡◌, ◌∙◌, ◌+◌, ◌-◌, ◌++◌, ◌∷◌, [], suc, ap, sym, take, is_le}
use Rattle.std.proofs.lemmas.List.{take_more}
use Rattle.vx_rows_values.specs.Order.{sorted}
use Rattle.vx_rows.specs.View.{row}
use Rattle.vx_match_merging.specs.Keys.{directions, key_of, key_cmp}
use Rattle.vx_match_merging.specs.Merged.{last_key}
use Rattle.vx_match_merging.proofs.RiseFacts.{last-take, rise-next}
use Rattle.vx_match_merging.proofs.key_run.rises_at.Goals as goal

pub returns-else-i-eq0 : goal.returns-else-i-eq0
returns-else-i-eq0 c = λ rise.
    let by = c.args.order.now in
    let rows = c.args.rows.now in
    let at = c.args.i in
    let near = c.requires.row in
    let some = c.if-i-eq0.false in
    let next = at - 1 in
    let up : at ≡ suc next = omega (arith, some) in
    let last : last_key by (take at rows.rows) ≡ key_of by (row rows next) =
    ap (λ n. last_key by (take n rows.rows)) up ∙ last-take by rows.rows next (omega (arith, near, up)) in
    let more : take (at + 1) rows.rows ≡ take at rows.rows ++ row rows at ∷ [] = take_more rows.rows at [] near in
    c.is_le.ensures
    ∙ (ap is_le c.compare_rows.ensures
    ∙ (ap (λ k. is_le (key_cmp (directions by) k (key_of by (row rows at)))) (sym last)
    ∙ (rise-next by (take at rows.rows) (row rows at) rise ∙ ap (sorted by) (sym more))))

use Rattle.std.proofs.Common.{◌<◌, ◌++◌, ◌∷◌, [], arith, length, ap, ◌∙◌, sym, take}
use Rattle.std.specs.Prelude.{cond}
use Rattle.vx_rows_views.specs.Selected.{places_of}
use Rattle.vx_rows_views.proofs.Passing.{next-place-here}
use Rattle.vx_ops_kernels.specs.Holds.{holds_of}
use Rattle.vx_ops_kernels.proofs.chunks.places_by_rows.Goals as goal

pub loop-i-preserved : goal.loop-i-preserved
loop-i-preserved c =
    let test = holds_of c.args.condition.now in
    let rows = c.args.chunk.now.rows in
    let i = c.loop-i.i in
    let near : i < length rows = omega (arith, c.loop-i-test.true, c.len-i-end.ensures) in
    c.in_ok-push_place_if.ensures
    ∙ (ap (λ xs. xs ++ cond c.holds.result (i ∷ []) []) c.loop-i.invariant
    ∙ (ap (λ b. places_of test (take i rows) ++ cond b (i ∷ []) []) c.holds.ensures ∙ sym (next-place-here test rows i [] near)))

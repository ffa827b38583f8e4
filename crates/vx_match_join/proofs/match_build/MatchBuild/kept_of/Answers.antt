use Rattle.std.proofs.Common.{◌≡◌, ◌∙◌, length, filter, ap, sym, subst, arith, take_all}
use Rattle.std.proofs.lemmas.Result.{IfOk-weaker}
use Rattle.vx_rows.specs.View.{RowsView, ArePositions}
use Rattle.vx_rows_views.specs.Selected.{places_of}
use Rattle.vx_rows_views.proofs.Passing.{all-pass, places-near}
use Rattle.vx_match_join.specs.Matching.{keeps}
use Rattle.vx_match_join.proofs.match_build.MatchBuild.kept_of.Goals as goal

pub returns-then-len-clause-rows : goal.returns-then-len-clause-rows
returns-then-len-clause-rows c =
    let p = keeps c.args.self.now in
    let rows = c.args.chunk.now.rows in
    let whole = c.loop-from.invariant.places ∙ ap (λ xs. places_of p xs) (take_all c.loop-from.from rows (omega (arith, c.loop-from-test.false, c.len.ensures))) in
    let found = ap length whole in
    let many : length (places_of p rows) ≡ length rows = omega (arith, found, c.len-2.ensures, c.len-3.ensures, c.if-len.true, c.loop-from.places.ok.0) in
    IfOk-weaker c.share.result _ (λ (t : RowsView). t.rows ≡ filter p rows) (λ t e. ap (λ (u : RowsView). u.rows) e ∙ sym (all-pass p rows many)) c.share.ensures

pub at-requires : goal.at-requires
at-requires c =
    let p = keeps c.args.self.now in
    let rows = c.args.chunk.now.rows in
    let whole = c.loop-from.invariant.places ∙ ap (λ xs. places_of p xs) (take_all c.loop-from.from rows (omega (arith, c.loop-from-test.false, c.len.ensures))) in
    subst (ArePositions (length rows)) (sym (c.as_slice.ensures.value ∙ whole)) (places-near p rows)

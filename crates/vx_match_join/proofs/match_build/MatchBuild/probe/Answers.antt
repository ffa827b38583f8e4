use Rattle.std.proofs.Common.{◌∙◌, filter, ap, take_all}
use Rattle.vx_match_join.specs.Matching.{keeps}
use Rattle.vx_match_join.proofs.MatchFacts.{keeps-rows, keeps-few}
use Rattle.vx_match_join.proofs.match_build.MatchBuild.probe.Goals as goal
use Rattle.vx_rows_views.specs.Chunks.{all_rows}

pub returns-clause-rows : goal.returns-clause-rows
returns-clause-rows c = λ rs built.
    let b = c.args.self.now in
    let p = keeps b in
    let all = c.loop-i.invariant.rows ∙ ap (λ ts. filter p (all_rows ts)) (take_all c.loop-i.i c.chunks-chunks.result.now c.loop-i-test.false) ∙ ap (filter p) c.chunks-chunks.ensures.rows in
    all ∙ keeps-rows b rs c.args.batch.now.rows built

pub returns-clause-fewer : goal.returns-clause-fewer
returns-clause-fewer c =
    let b = c.args.self.now in
    let p = keeps b in
    let all = c.loop-i.invariant.rows ∙ ap (λ ts. filter p (all_rows ts)) (take_all c.loop-i.i c.chunks-chunks.result.now c.loop-i-test.false) ∙ ap (filter p) c.chunks-chunks.ensures.rows in
    keeps-few p c.args.batch.now.rows c.loop-i.found.rows all

use Rattle.std.proofs.Common.{◌+◌, ◌++◌, List, sym, ap, ◌∙◌, subst, get_or}
use Rattle.std.specs.Prelude.{All}
use Rattle.std.proofs.lemmas.List.Elements.{All-push}
use Rattle.vx_rows_views.specs.declared.marks.Mark.{Mark}
use Rattle.vx_rows_views.specs.Marks.{IsMark}
use Rattle.vx_rows_views.proofs.Marked.{mark-moved}
use Rattle.vx_rows_views.proofs.marks.add_marks.Goals as goal

pub loop-i-preserved : goal.loop-i-preserved
loop-i-preserved c = λ xs ys chunks rows marks others.
    let m : Mark = get_or c.args.others.now c.loop-i.i (record { chunk = 0; rows = 0 }) in
    let n = c.in-Some.mark in
    let all = IsMark (xs ++ ys) in
    subst (λ (ms : List Mark). All all ms) (sym c.in-Ok.ensures.ok)
    (All-push all c.loop-i.marks n (c.loop-i.invariant xs ys chunks rows marks others)
    (mark-moved xs ys m n (c.in-Some.ensures.0 ∙ ap (λ k. k + m.chunk) chunks) (c.in-Some.ensures.1 ∙ ap (λ k. k + m.rows) rows) (others c.loop-i.i (record { chunk = 0; rows = 0 }) c.loop-i-test.true)))

pub returns-in_default-push : goal.returns-in_default-push
returns-in_default-push c = λ xs ys chunks rows marks others.
    subst (λ (ms : List Mark). All (IsMark (xs ++ ys)) ms) (sym c.in_default-push.ensures.err) (c.loop-i.invariant xs ys chunks rows marks others)

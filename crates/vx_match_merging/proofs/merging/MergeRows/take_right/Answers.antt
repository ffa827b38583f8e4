use Rattle.std.proofs.Common.{◌≡◌, ◌∙◌, ◌++◌, ap, sym}
use Rattle.vx_rows_values.specs.Order.{sorted}
use Rattle.vx_match_merging.specs.Merged.{MergeView}
use Rattle.vx_match_merging.proofs.RiseFacts.{fall-back}
use Rattle.vx_match_merging.proofs.MergeCalls.{call-right, call-right-falls}
use Rattle.vx_match_merging.proofs.merging.MergeRows.take_right.Goals as goal

pub returns-then-not-rises-clause-err : goal.returns-then-not-rises-clause-err
returns-then-not-rises-clause-err c = λ ls rs ys h.
    let rights : c.deref.result.now ≡ c.args.self.now.rights = c.deref.ensures.value ∙ (ap (λ (m : MergeView). m.rights) c.self.view_is ∙ c.in_ok-drop_passed.ensures.shape.rights) in
    let xs = c.args.batch.rows in
    fall-back c.args.self.now.rights rs xs (ap (λ by. sorted by xs) (sym rights) ∙ (sym c.rises.ensures ∙ c.if-not-rises.true))

pub returns-then-not-rise_across-clause-err : goal.returns-then-not-rise_across-clause-err
returns-then-not-rise_across-clause-err c = λ ls rs ys h.
    let rights = ap (λ (m : MergeView). m.rights) c.self.view_is ∙ c.in_ok-drop_passed.ensures.shape.rights in
    let xs = c.args.batch.rows in
    let up = ap (λ by. sorted by xs) (sym c.deref.ensures.value) ∙ (sym c.rises.ensures ∙ c.if-not-rises.false) in
    ap (λ by. sorted by (rs ++ xs)) (sym rights)
    ∙ call-right-falls _ _ c.self.view_is ls rs ys (c.in_ok-drop_passed.ensures.joined ls rs ys h) c.append.new.self xs c.len-from.result c.deref-2.result.now c.deref-2.ensures.value
    c.in_ok-append.ensures.ok c.len-from.ensures up c.rise_across.result c.rise_across.ensures c.if-not-rise_across.true

pub returns-clause-joined : goal.returns-clause-joined
returns-clause-joined c = λ runs ls rs ys h.
    let ended = ap (λ (m : MergeView). m.right_ended) c.self.view_is ∙ c.in_ok-drop_passed.ensures.right_ended in
    let xs = c.args.batch.rows in
    let up = ap (λ by. sorted by xs) (sym c.deref.ensures.value) ∙ (sym c.rises.ensures ∙ c.if-not-rises.false) in
    call-right _ _ c.self.view_is ls rs ys (c.in_ok-drop_passed.ensures.joined ls rs ys h) c.append.new.self xs c.len-from.result c.deref-2.result.now c.deref-2.ensures.value
    c.in_ok-append.ensures.ok c.len-from.ensures up c.rise_across.result c.rise_across.ensures (ended ∙ runs) c.self.invariant.4 c.if-not-rise_across.false

use Rattle.std.proofs.Common.{◌≡◌, ◌<◌, ◌++◌, ◌∙◌, List, length, false, ap, subst, sym}
use Rattle.vx_rows_values.specs.Values.{Row}
use Rattle.vx_rows_values.specs.Order.{sorted}
use Rattle.vx_match_merging.specs.declared.merging.MergeFault.{MergeFault}
use Rattle.vx_match_merging.specs.Merged.{MergeView, HasJoined, MergeBlame}
use Rattle.vx_match_keys.proofs.ErrorFacts.{reported}
use Rattle.vx_match_merging.proofs.RiseFacts.{fall-back}
use Rattle.vx_match_merging.proofs.MergeCalls.{call-left, call-left-falls, not-empty}
use Rattle.vx_match_merging.proofs.merging.MergeRows.take_left.Goals as goal

pub returns-then-not-rises-clause-err : goal.returns-then-not-rises-clause-err
returns-then-not-rises-clause-err c = λ runs ls rs ys h.
    let lefts : c.deref.result.now ≡ c.args.self.now.lefts = c.deref.ensures.value ∙ ap (λ (m : MergeView). m.lefts) c.self.view_is in
    let xs = c.args.batch.rows in
    fall-back c.args.self.now.lefts ls xs (ap (λ by. sorted by xs) (sym lefts) ∙ (sym c.rises.ensures ∙ c.if-not-rises.true))

pub returns-in_err-self-inside-clause-err : goal.returns-in_err-self-inside-clause-err
returns-in_err-self-inside-clause-err c =
    let now = c.args.self.now in
    let xs = c.args.batch.rows in
    let e = c.in_err-self-inside.field-0.0 in
    reported c.from_residual.result e
    (λ (x : MergeFault). now.left_ended ≡ false → (ls rs ys : List Row) → HasJoined now ls rs ys → MergeBlame x (sorted now.lefts (ls ++ xs)))
    c.from_residual.ensures.1
    (λ runs ls rs ys h.
    let some : 0 < length xs = not-empty xs c.is_empty.result c.is_empty.ensures c.if-is_empty.false in
    subst (λ (x : MergeFault). MergeBlame x (sorted now.lefts (ls ++ xs))) (sym c.in_err-self-inside.ensures.err.0)
    (call-left-falls _ _ c.self.view_is ls rs ys h c.requires.joined c.self.invariant.2 runs c.args.batch some c.order_of_next-order.result c.order_of_next-order.ensures c.in_err-self-inside.ensures.err.1))

pub returns-clause-joined : goal.returns-clause-joined
returns-clause-joined c = λ runs ls rs ys h.
    let some : 0 < length c.args.batch.rows = not-empty c.args.batch.rows c.is_empty.result c.is_empty.ensures c.if-is_empty.false in
    call-left _ _ c.self.view_is ls rs ys h c.requires.joined c.self.invariant.2 runs c.args.batch some
    c.order_of_next-order.result c.order_of_next-order.ensures c.in_ok-self-inside.ensures.rises c.in_ok-self-inside.field-0 c.in_ok-self-inside.ensures.ok

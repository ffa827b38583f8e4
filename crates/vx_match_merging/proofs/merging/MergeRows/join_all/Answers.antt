use Rattle.std.proofs.Common.{◌∙◌, ◌++◌, List, ap, sym, subst, append_assoc}
use Rattle.vx_rows_values.specs.declared.order.OrderEntry.{OrderEntry}
use Rattle.vx_rows_values.specs.Values.{Row}
use Rattle.vx_rows_values.specs.Order.{sorted}
use Rattle.vx_match_merging.specs.declared.merging.MergeFault.{MergeFault}
use Rattle.vx_match_merging.specs.Merged.{HasJoined, MergeBlame}
use Rattle.vx_match_keys.proofs.ErrorFacts.{reported}
use Rattle.vx_match_merging.proofs.MergeCalls.{same-inputs}
use Rattle.vx_match_merging.proofs.merging.MergeRows.join_all.Goals as goal

pub returns-in_err-join_some-clause-err : goal.returns-in_err-join_some-clause-err
returns-in_err-join_some-clause-err c =
    let now = c.args.self.now in
    let inv = c.loop-joined.invariant in
    let e = c.in_err-join_some.field-0.0 in
    reported c.from_residual-in_err-join_some.result e (λ (x : MergeFault). (ls rs ys : List Row) → HasJoined now ls rs ys → MergeBlame x (sorted now.lefts ls)) c.from_residual-in_err-join_some.ensures.1
    (λ ls rs ys h. subst (λ (by : List OrderEntry). MergeBlame e (sorted by ls)) inv.inputs.lefts (c.in_err-join_some.ensures.err ls rs _ (inv.joined ls rs ys h)))

pub loop-joined-preserved : goal.loop-joined-preserved
loop-joined-preserved c =
    let inv = c.loop-joined.invariant in
    let some = c.in_ok-join_some.ensures in
    let was = c.loop-joined.self in
    let new = c.join_some-in-loop-joined.new.self in
    let before = c.loop-joined.joined.rows in
    let more = c.in_ok-join_some.field-0.rows in
    record {
      inputs = same-inputs c.args.self.now was new inv.inputs some.inputs;
      types = c.in_ok-append.ensures.types ∙ inv.types;
      joined = λ ls rs ys h.
          subst (HasJoined new ls rs) (append_assoc ys before more ∙ ap (λ xs. ys ++ xs) (sym c.in_ok-append.ensures.ok)) (some.joined ls rs (ys ++ before) (inv.joined ls rs ys h));
    }

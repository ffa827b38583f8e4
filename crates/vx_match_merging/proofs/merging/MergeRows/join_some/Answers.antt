use Rattle.std.proofs.Common.{rules, append-nil, inr, ◌≡◌, ◌∙◌, ◌++◌, ℕ, List, ap, sym, subst, length, arith, inl}
use Rattle.vx_rows_values.specs.Values.{Row}
use Rattle.vx_rows_values.specs.Order.{sorted}
use Rattle.vx_rows.specs.View.{ArePositions}
use Rattle.vx_match_merging.specs.declared.merging.MergeFault.{MergeFault}
use Rattle.vx_match_merging.specs.Merged.{MergeView, IsMerged, HasJoined, MergeBlame, rows_at}
use Rattle.vx_match_keys.proofs.ErrorFacts.{reported}
use Rattle.vx_match_merging.proofs.MergeCalls.{same-inputs, same-blame, joined-behind}
use Rattle.vx_match_merging.proofs.GoesOn.{pairs-left}
use Rattle.vx_match_merging.proofs.merging.MergeRows.join_some.Goals as goal

pub loop-pairs-init : goal.loop-pairs-init
loop-pairs-init c =
    let now = c.args.self.now in
    let blocks = c.in_ok-join_blocks.ensures in
    let none : length c.new.result.items ≡ 0 = ap length c.new.ensures.items in
    record {
      inputs = blocks.inputs;
      next = blocks.next;
      end = blocks.end;
      begun = elim blocks.begun [
        | inl less ↦ inl less
        | inr same ↦ inr (same.0, ap (λ p. length p.left.items) same.1 ∙ none)
      ];
      fewer = let a = blocks.fewer in omega (arith, a, none);
      many = blocks.many;
      left = blocks.left;
      right = blocks.right;
      joined = λ earlier passed ys h.
          blocks.joined earlier passed ys
          (subst (IsMerged now earlier passed) (sym (append-nil ys) ∙ (λ i. ys ++ rows_at now.left now.right (sym c.new.ensures.items i) (sym c.new-2.ensures.items i))) h);
    }

pub returns-in_err-join_next-clause-err : goal.returns-in_err-join_next-clause-err
returns-in_err-join_next-clause-err c =
    let now = c.args.self.now in
    let inv = c.loop-pairs.invariant in
    let e = c.in_err-join_next.field-0.0 in
    reported c.from_residual-in_err-join_next.result e (λ (x : MergeFault). (ls rs ys : List Row) → HasJoined now ls rs ys → MergeBlame x (sorted now.lefts ls)) c.from_residual-in_err-join_next.ensures.1
    (λ ls rs ys h.
    subst (λ (xs : List Row). MergeBlame e (sorted now.lefts xs)) h.left_is
    (same-blame e now c.loop-pairs.self inv.inputs h.earlier (c.in_err-join_next.ensures.err h.earlier h.passed _ (inv.joined h.earlier h.passed ys h.is))))

pub loop-pairs-preserved : goal.loop-pairs-preserved
loop-pairs-preserved c =
    let now = c.args.self.now in
    let inv = c.loop-pairs.invariant in
    let was = c.loop-pairs.self in
    let next = c.in_ok-join_next.ensures in
    let on = c.skip_unmatched.ensures in
    let blocks = c.in_ok-join_blocks-2.ensures in
    let joined = c.join_next.new.self in
    let skipped = c.skip_unmatched.new.self in
    let last = c.join_blocks-in-loop-pairs.new.self in
    let pairs = c.loop-pairs.pairs in
    let more = c.join_next.new.pairs in
    let all = c.join_blocks-in-loop-pairs.new.pairs in
    let same = same-inputs now joined skipped (same-inputs now was joined inv.inputs next.inputs) on.inputs in
    let still = same-inputs now skipped last same blocks.inputs in
    let step = next.moved (search rules) in
    record {
      inputs = still;
      next = let a = inv.next in let b = next.next in let d = on.next in let e = blocks.next in omega (arith, a, b, d, e);
      end = let a = inv.end in let b = next.end in let d = on.end in let e = blocks.end in omega (arith, a, b, d, e);
      begun = inl (
          let a = inv.next in let b = on.next in let d = blocks.next in let e = inv.end in let f = next.end in let g = on.end in let k = blocks.end in
          let left : length last.left.rows ≡ length now.left.rows = ap (λ t. length t.rows) still.left in
          let right : length last.right.rows ≡ length now.right.rows = ap (λ t. length t.rows) still.right in
          let first : length was.left.rows ≡ length now.left.rows = ap (λ t. length t.rows) inv.inputs.left in
          let up = step.0 in
          let within = step.1 in
          omega (arith, a, b, d, e, f, g, k, left, right, first, up, within)
          );
      fewer = let a = inv.fewer in let b = next.fewer in let d = pairs-left joined skipped on.inputs on.next in let e = blocks.fewer in omega (arith, a, b, d, e);
      many = blocks.many;
      left = subst (λ (n : ℕ). ArePositions n all.left.items) (ap (λ t. length t.rows) same.left) blocks.left;
      right = subst (λ (n : ℕ). ArePositions n all.right.items) (ap (λ t. length t.rows) same.right) blocks.right;
      joined = λ earlier passed ys h.
          let before : IsMerged was earlier passed (ys ++ rows_at was.left was.right pairs.left.items pairs.right.items) =
          subst (IsMerged was earlier passed) (λ i. ys ++ rows_at (sym inv.inputs.left i) (sym inv.inputs.right i) pairs.left.items pairs.right.items) (inv.joined earlier passed ys h) in
          let passed-on : IsMerged skipped earlier passed (ys ++ rows_at was.left was.right more.left.items more.right.items) = on.joined earlier passed _ (next.joined earlier passed ys before) in
          let at : IsMerged skipped earlier passed (ys ++ rows_at skipped.left skipped.right more.left.items more.right.items) =
          subst (IsMerged skipped earlier passed) (λ i. ys ++ rows_at ((inv.inputs.left ∙ sym same.left) i) ((inv.inputs.right ∙ sym same.right) i) more.left.items more.right.items) passed-on in
          subst (IsMerged last earlier passed) (λ i. ys ++ rows_at (same.left i) (same.right i) all.left.items all.right.items) (blocks.joined earlier passed ys at);
    }

pub returns-clause-joined : goal.returns-clause-joined
returns-clause-joined c = λ ls rs ys h.
    let now = c.args.self.now in
    let inv = c.loop-pairs.invariant in
    let next = c.in_ok-join_next.ensures in
    let was = c.loop-pairs.self in
    let new = c.join_next.new.self in
    let pairs = c.loop-pairs.pairs in
    let more = c.join_next.new.pairs in
    let before : IsMerged was h.earlier h.passed (ys ++ rows_at was.left was.right pairs.left.items pairs.right.items) =
    subst (IsMerged was h.earlier h.passed) (λ i. ys ++ rows_at (sym inv.inputs.left i) (sym inv.inputs.right i) pairs.left.items pairs.right.items) (inv.joined h.earlier h.passed ys h.is) in
    let left = ap (λ (m : MergeView). m.left) c.self-2.view_is ∙ next.inputs.left in
    let right = ap (λ (m : MergeView). m.right) c.self-2.view_is ∙ next.inputs.right in
    let rows : c.in_ok-pair_rows.field-0.rows ≡ rows_at was.left was.right more.left.items more.right.items =
    c.in_ok-pair_rows.ensures.rows ∙ (λ i. rows_at (left i) (right i) more.left.items more.right.items) in
    joined-behind now new (same-inputs now was new inv.inputs next.inputs) ls rs ys (ys ++ c.in_ok-pair_rows.field-0.rows) h
    (subst (IsMerged new h.earlier h.passed) (ap (λ xs. ys ++ xs) (sym rows)) (next.joined h.earlier h.passed ys before))

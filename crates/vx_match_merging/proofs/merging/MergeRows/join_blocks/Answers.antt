use Rattle.std.proofs.Common.{rules, ◌++◌, ℕ, ap, sym, subst, length, arith, inl, inr}
use Rattle.vx_rows.specs.View.{ArePositions}
use Rattle.vx_match_merging.specs.AtHand.{rows_at_hand}
use Rattle.vx_match_merging.specs.Merged.{IsMerged, rows_at}
use Rattle.vx_match_merging.proofs.MergeCalls.{same-inputs}
use Rattle.vx_match_merging.proofs.merging.MergeRows.join_blocks.Goals as goal

pub loop-preserved : goal.loop-preserved
loop-preserved c =
    let now = c.args.self.now in
    let inv = c.loop.invariant in
    let was = c.loop.self in
    let pairs = c.loop.pairs in
    let new = c.join_block.new.self in
    let more = c.join_block.new.pairs in
    let block = c.in_ok-join_block.ensures in
    let moved = block.moved (search rules) in
    record {
      inputs = same-inputs now was new inv.inputs block.inputs;
      next = let a = inv.next in let b = block.next in omega (arith, a, b);
      end = let a = inv.end in let b = block.end in omega (arith, a, b);
      begun = elim inv.begun [
        | inl less ↦ inl (omega (arith, less, moved))
        | inr same ↦ inl (let e = ap rows_at_hand same.0 in omega (arith, e, moved))
      ];
      fewer = let a = inv.fewer in let b = block.fewer in omega (arith, a, b);
      many = block.many;
      left = subst (λ (n : ℕ). ArePositions n more.left.items) (ap (λ t. length t.rows) inv.inputs.left) block.left;
      right = subst (λ (n : ℕ). ArePositions n more.right.items) (ap (λ t. length t.rows) inv.inputs.right) block.right;
      joined = λ earlier passed ys h.
          let before : IsMerged was earlier passed (ys ++ rows_at was.left was.right pairs.left.items pairs.right.items) =
          subst (IsMerged was earlier passed) (λ i. ys ++ rows_at (sym inv.inputs.left i) (sym inv.inputs.right i) pairs.left.items pairs.right.items) (inv.joined earlier passed ys h) in
          subst (IsMerged new earlier passed) (λ i. ys ++ rows_at (inv.inputs.left i) (inv.inputs.right i) more.left.items more.right.items) (block.joined earlier passed ys before);
    }

pub returns-clause-joined : goal.returns-clause-joined
returns-clause-joined c = λ earlier passed ys h.
    let inv = c.loop.invariant in
    let was = c.loop.self in
    let pairs = c.loop.pairs in
    let more = c.join_block.new.pairs in
    let before : IsMerged was earlier passed (ys ++ rows_at was.left was.right pairs.left.items pairs.right.items) =
    subst (IsMerged was earlier passed) (λ i. ys ++ rows_at (sym inv.inputs.left i) (sym inv.inputs.right i) pairs.left.items pairs.right.items) (inv.joined earlier passed ys h) in
    subst (IsMerged c.join_block.new.self earlier passed) (λ i. ys ++ rows_at (inv.inputs.left i) (inv.inputs.right i) more.left.items more.right.items) (c.in_ok-join_block.ensures.joined earlier passed ys before)

use Rattle.std.proofs.Common.{◌≡◌, ◌<◌, ◌≤◌, ◌+◌, ◌-◌, ◌⊎◌, ◌++◌, List, length}
use Rattle.vx_rows_values.specs.Values.{Row}
use Rattle.vx_rows.specs.View.{ArePositions}
use Rattle.vx_match_merging.specs.AtHand.{rows_at_hand, pairs_at_hand}
use Rattle.vx_match_merging.specs.Merged.{HasSameInputs, IsMerged, rows_at}
use Rattle.vx_match_merging.proofs.merging.MergeRows.join_some.Given as goal

abbrev pub invariant-loop-pairs : goal.invariant-loop-pairs
invariant-loop-pairs l = record {
  inputs : HasSameInputs l.fn.self l.self;
  next : l.fn.self.next ≤ l.self.next;
  end : l.fn.self.end ≤ l.self.end;
  begun : (rows_at_hand l.self < rows_at_hand l.fn.self) ⊎ ((l.self ≡ l.fn.self) × (length l.pairs.left.items ≡ 0));
  fewer : pairs_at_hand l.self + length l.pairs.left.items ≤ pairs_at_hand l.fn.self;
  many : length l.pairs.left.items ≡ length l.pairs.right.items;
  left : ArePositions (length l.fn.self.left.rows) l.pairs.left.items;
  right : ArePositions (length l.fn.self.right.rows) l.pairs.right.items;
  joined : (earlier passed ys : List Row) → IsMerged l.fn.self earlier passed ys → IsMerged l.self earlier passed (ys ++ rows_at l.fn.self.left l.fn.self.right l.pairs.left.items l.pairs.right.items);
}

abbrev pub decreases-loop-pairs : goal.decreases-loop-pairs
decreases-loop-pairs l = length l.self.left.rows - l.self.next

use Rattle.std.proofs.Common.{◌≡◌, ◌<◌, ◌≤◌, ◌+◌, ◌⊎◌, ◌++◌, List, length}
use Rattle.vx_rows_values.specs.Values.{Row}
use Rattle.vx_rows.specs.View.{ArePositions}
use Rattle.vx_match_merging.specs.AtHand.{rows_at_hand, pairs_at_hand}
use Rattle.vx_match_merging.specs.Merged.{HasSameInputs, IsMerged, rows_at}
use Rattle.vx_match_merging.proofs.merging.MergeRows.join_blocks.Given as goal

abbrev pub invariant-loop : goal.invariant-loop
invariant-loop l = record {
  inputs : HasSameInputs l.initial.self l.self;
  next : l.initial.self.next ≤ l.self.next;
  end : l.initial.self.end ≤ l.self.end;
  begun : (rows_at_hand l.self < rows_at_hand l.initial.self) ⊎ ((l.self ≡ l.initial.self) × (l.pairs ≡ l.initial.pairs));
  fewer : pairs_at_hand l.self + length l.pairs.left.items ≤ pairs_at_hand l.initial.self + length l.initial.pairs.left.items;
  many : length l.pairs.left.items ≡ length l.pairs.right.items;
  left : ArePositions (length l.initial.self.left.rows) l.pairs.left.items;
  right : ArePositions (length l.initial.self.right.rows) l.pairs.right.items;
  joined : (earlier passed ys : List Row) → IsMerged l.initial.self earlier passed (ys ++ rows_at l.initial.self.left l.initial.self.right l.initial.pairs.left.items l.initial.pairs.right.items)
      → IsMerged l.self earlier passed (ys ++ rows_at l.initial.self.left l.initial.self.right l.pairs.left.items l.pairs.right.items);
}

abbrev pub decreases-loop : goal.decreases-loop
decreases-loop l = rows_at_hand l.self

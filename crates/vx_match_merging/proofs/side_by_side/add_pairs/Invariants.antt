use Rattle.std.proofs.Common.{◌≡◌, ◌+◌, ◌-◌, ◌<◌, ◌≤◌, ◌++◌, ℕ, length, map, slice_range}
use Rattle.vx_rows.specs.View.{RowsView, row, ArePositions}
use Rattle.vx_match_merging.specs.Merged.{rows_at}
use Rattle.vx_match_merging.proofs.side_by_side.add_pairs.Given as goal

abbrev pub invariant-loop-other : goal.invariant-loop-other
invariant-loop-other l = record {
  many : length l.pairs.left.items ≡ length l.pairs.right.items;
  count : length l.pairs.left.items ≡ length l.initial.pairs.left.items + (l.other - l.from);
  left : (n : ℕ) → l.place < n → ArePositions n l.initial.pairs.left.items → ArePositions n l.pairs.left.items;
  right : (n : ℕ) → l.to ≤ n → ArePositions n l.initial.pairs.right.items → ArePositions n l.pairs.right.items;
  rows : (a b : RowsView) → l.to ≤ length b.rows
      → rows_at a b l.pairs.left.items l.pairs.right.items ≡ rows_at a b l.initial.pairs.left.items l.initial.pairs.right.items ++ map (λ r. row a l.place ++ r) (slice_range b.rows l.from l.other);
}

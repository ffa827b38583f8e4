use Rattle.std.proofs.Common.{◌≡◌, ◌≤◌, ◌+◌, ◌-◌, ◌*◌, ◌++◌, ℕ, List, length}
use Rattle.vx_rows_values.specs.Values.{Row}
use Rattle.vx_rows.specs.View.{ArePositions}
use Rattle.vx_match_merging.specs.Merged.{MergeView, IsMerged, rows_at}
use Rattle.vx_match_merging.specs.Numbers.{HasNumbers, at_place}
use Rattle.vx_match_merging.proofs.numbers.join_numbers.Given as goal

abbrev pub invariant-loop-i : goal.invariant-loop-i
invariant-loop-i l = record {
  left_within : l.i ≤ length l.lefts;
  right_within : l.j ≤ length l.rights;
  order : l.start ≤ l.from.end + l.j;
  many : length l.pairs.left.items ≡ length l.pairs.right.items;
  left : (n : ℕ) → l.from.next + length l.lefts ≤ n → ArePositions n l.initial.pairs.left.items → ArePositions n l.pairs.left.items;
  right : (n : ℕ) → l.from.end + length l.rights ≤ n → ArePositions n l.initial.pairs.right.items → ArePositions n l.pairs.right.items;
  fewer : (x r : ℕ) → l.from.next + length l.lefts ≤ x → l.from.end + length l.rights ≤ r
      → (x - (l.from.next + l.i)) * r + length l.pairs.left.items ≤ (x - l.from.next) * r + length l.initial.pairs.left.items;
  still : l.i ≡ 0 → l.j ≡ 0 → (l.start ≡ l.from.start) × (l.pairs ≡ l.initial.pairs);
  joined : (s : MergeView) (earlier passed ys : List Row) → HasNumbers s l.from l.falling l.lefts l.rights
      → IsMerged (at_place s l.from) earlier passed (ys ++ rows_at s.left s.right l.initial.pairs.left.items l.initial.pairs.right.items)
      → IsMerged (record s { next = l.from.next + l.i; start = l.start; end = l.from.end + l.j }) earlier passed (ys ++ rows_at s.left s.right l.pairs.left.items l.pairs.right.items);
}

abbrev pub decreases-loop-i : goal.decreases-loop-i
decreases-loop-i l = (length l.lefts - l.i) + (length l.rights - l.j)

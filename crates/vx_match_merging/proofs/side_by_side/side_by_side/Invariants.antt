use Rattle.std.proofs.Common.{◌≡◌, ◌++◌, length, take}
use Rattle.vx_rows_views.specs.Chunks.{all_rows}
use Rattle.vx_match_merging.specs.Merged.{beside}
use Rattle.vx_match_merging.proofs.side_by_side.side_by_side.Given as goal

abbrev pub invariant-loop-i : goal.invariant-loop-i
invariant-loop-i l = record {
  types : l.joined.types ≡ l.left.types ++ l.right.types;
  from : l.from ≡ length (all_rows (take l.i l.chunks));
  rows : l.joined.rows ≡ beside (all_rows (take l.i l.chunks)) (take l.from l.right.rows);
}

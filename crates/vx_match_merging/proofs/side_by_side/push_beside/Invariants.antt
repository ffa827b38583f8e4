use Rattle.std.proofs.Common.{◌≡◌, ◌++◌, length, take}
use Rattle.vx_rows_views.specs.Chunks.{all_rows}
use Rattle.vx_match_merging.specs.Merged.{beside}
use Rattle.vx_match_merging.proofs.side_by_side.push_beside.Given as goal

abbrev pub invariant-loop-i : goal.invariant-loop-i
invariant-loop-i l = record {
  types : l.joined.types ≡ l.initial.joined.types;
  from : l.from ≡ length (all_rows (take l.i l.chunks));
  rows : l.joined.rows ≡ l.initial.joined.rows ++ beside (take l.from l.left.rows) (all_rows (take l.i l.chunks));
}

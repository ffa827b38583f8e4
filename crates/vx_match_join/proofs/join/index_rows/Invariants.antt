use Rattle.std.proofs.Common.{◌≡◌, take, length}
use Rattle.vx_rows_views.specs.Chunks.{all_rows}
use Rattle.vx_match_join.specs.Build.{IsIndex}
use Rattle.vx_match_join.specs.Parts.{places_in}
use Rattle.vx_match_join.proofs.join.index_rows.Given as goal

abbrev pub invariant-loop-i : goal.invariant-loop-i
invariant-loop-i l = record {
  index : IsIndex l.columns (all_rows (take l.i l.chunks)) l.keys (places_in l.parts);
  first : l.first ≡ length (all_rows (take l.i l.chunks));
}

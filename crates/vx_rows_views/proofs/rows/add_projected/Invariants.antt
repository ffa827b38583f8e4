use Rattle.std.proofs.Common.{◌≡◌, ◌++◌, map, take}
use Rattle.vx_rows_values.specs.Values.{pick}
use Rattle.vx_rows_views.specs.Chunks.{all_rows}
use Rattle.vx_rows_views.proofs.rows.add_projected.Given as goal

abbrev pub invariant-loop-i : goal.invariant-loop-i
invariant-loop-i l = record {
  types : l.found.types ≡ l.initial.found.types;
  rows : l.found.rows ≡ l.initial.found.rows ++ map (pick l.cols) (all_rows (take l.i l.chunks));
}

use Rattle.std.proofs.Common.{◌≡◌, ◌++◌, take}
use Rattle.vx_rows_views.specs.Chunks.{all_rows}
use Rattle.vx_rows_views.proofs.rows.copy_chunks.Given as goal

abbrev pub invariant-loop-i : goal.invariant-loop-i
invariant-loop-i l = record {
  types : l.rows.types ≡ l.initial.rows.types;
  rows : l.rows.rows ≡ l.initial.rows.rows ++ all_rows (take l.i l.chunks);
}

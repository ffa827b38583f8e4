use Rattle.std.proofs.Common.{◌≡◌, ◌++◌, drop, take}
use Rattle.vx_rows_views.specs.Chunks.{all_rows}
use Rattle.vx_rows_views.proofs.rows.add_part.Given as goal

abbrev pub invariant-loop-i : goal.invariant-loop-i
invariant-loop-i l = record {
  types : l.found.types ≡ l.initial.found.types;
  rows : l.found.rows ++ take l.wanted (drop l.ahead (all_rows (drop l.i l.chunks))) ≡ l.initial.found.rows ++ take l.count (drop l.skip (all_rows l.chunks));
}

use Rattle.std.proofs.Common.{◌≡◌, [], take}
use Rattle.vx_rows_views.proofs.chunk.Chunk.copied.Given as goal

abbrev pub invariant-loop-i : goal.invariant-loop-i
invariant-loop-i l = record {
  types : l.filling.types ≡ l.self.types;
  rows : l.filling.rows ≡ take l.i l.self.rows;
  front : l.filling.front ≡ [];
}

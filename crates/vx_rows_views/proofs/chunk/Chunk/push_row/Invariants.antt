use Rattle.std.proofs.Common.{◌≡◌, take}
use Rattle.vx_rows.specs.View.{row}
use Rattle.vx_rows_views.proofs.chunk.Chunk.push_row.Given as goal

abbrev pub invariant-loop-column : goal.invariant-loop-column
invariant-loop-column l = record {
  types : l.filling.types ≡ l.initial.filling.types;
  rows : l.filling.rows ≡ l.initial.filling.rows;
  front : l.filling.front ≡ take l.column (row l.self l.i);
}

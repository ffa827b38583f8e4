use Rattle.std.proofs.Common.{◌+◌, length, take}
use Rattle.std.specs.Prelude.{slice_index}
use Rattle.vx_rows.specs.Columns.{row_of, KeepRows, Fills}
use Rattle.vx_rows.proofs.writes.put_rows_at.Given as goal

abbrev pub invariant-loop-j : goal.invariant-loop-j
invariant-loop-j l = record {
  rows : KeepRows l.at l.initial.columns.items l.columns.items;
  fills : Fills l.at (length l.positions) l.first (l.first + l.j) l.initial.columns.items l.columns.items (λ k. take l.j (row_of l.others.items (slice_index l.positions k)));
}

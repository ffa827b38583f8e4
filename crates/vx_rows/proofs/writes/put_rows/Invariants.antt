use Rattle.std.proofs.Common.{◌+◌, ◌-◌, take}
use Rattle.vx_rows.specs.Columns.{row_of, KeepRows, Fills}
use Rattle.vx_rows.proofs.writes.put_rows.Given as goal

abbrev pub invariant-loop-j : goal.invariant-loop-j
invariant-loop-j l = record {
  rows : KeepRows l.at l.initial.columns.items l.columns.items;
  fills : Fills l.at (l.to - l.from) 0 l.j l.initial.columns.items l.columns.items (λ k. take l.j (row_of l.others.items (l.from + k)));
}

use Rattle.std.proofs.Common.{◌≡◌, true, take, map}
use Rattle.std.specs.List.{list_all}
use Rattle.vx_rows_values.specs.Types.{is_held}
use Rattle.vx_rows_values.specs.ValueView.{val_of}
use Rattle.vx_rows.specs.Columns.{KeepRows, Fills}
use Rattle.vx_rows.proofs.writes.put_values.Given as goal

abbrev pub invariant-loop-j : goal.invariant-loop-j
invariant-loop-j l = record {
  rows : KeepRows l.at l.initial.columns.items l.columns.items;
  fills : Fills l.at 1 0 l.j l.initial.columns.items l.columns.items (λ k. take l.j (map val_of l.values));
  held : list_all is_held (take l.j (map val_of l.values)) ≡ true;
}

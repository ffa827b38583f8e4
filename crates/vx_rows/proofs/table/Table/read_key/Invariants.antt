use Rattle.std.proofs.Common.{◌≡◌, ◌≤◌, length, take, map}
use Rattle.vx_rows_values.specs.Values.{pick}
use Rattle.vx_rows_values.specs.ValueView.{val_of}
use Rattle.vx_rows.specs.View.{row}
use Rattle.vx_rows.proofs.table.Table.read_key.Given as goal

abbrev pub invariant-loop-j : goal.invariant-loop-j
invariant-loop-j l = record {
  long : l.j ≤ length l.key.items;
  bound : length l.key.items ≤ length l.cols;
  values : take l.j (map val_of l.key.items) ≡ take l.j (pick l.cols (row l.self l.i));
}

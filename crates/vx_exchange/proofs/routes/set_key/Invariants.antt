use Rattle.std.proofs.Common.{◌≡◌, ◌≤◌, length, take, map}
use Rattle.vx_rows_values.specs.Values.{pick}
use Rattle.vx_rows_values.specs.ValueView.{val_of}
use Rattle.vx_rows.specs.View.{row}
use Rattle.vx_exchange.proofs.routes.set_key.Given as goal

abbrev pub invariant-loop-c : goal.invariant-loop-c
invariant-loop-c l = record {
  long : l.c ≤ length l.key.items;
  bound : length l.key.items ≤ length l.columns;
  values : take l.c (map val_of l.key.items) ≡ take l.c (pick l.columns (row l.chunk l.i));
}

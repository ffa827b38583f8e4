use Rattle.std.proofs.Common.{◌≡◌, take, map, true}
use Rattle.std.specs.List.{list_all}
use Rattle.vx_rows_values.specs.ValueView.{val_of}
use Rattle.vx_rows_values.specs.Types.{type_of, is_held}
use Rattle.vx_rows.proofs.table.Table.fits.Given as goal

abbrev pub invariant-loop-j : goal.invariant-loop-j
invariant-loop-j l = record {
  same : take l.j (map type_of (map val_of l.values)) ≡ take l.j l.self-inside.types.items;
  held : list_all is_held (take l.j (map val_of l.values)) ≡ true;
}

use Rattle.std.proofs.Common.{◌≡◌, map, take}
use Rattle.vx_rows_values.specs.ValueView.{val_of}
use Rattle.vx_rows.proofs.row.Row.copy.Given as goal

abbrev pub invariant-loop-value : goal.invariant-loop-value
invariant-loop-value l = map val_of l.values.items ≡ map val_of (take l.value-index l.value-items)

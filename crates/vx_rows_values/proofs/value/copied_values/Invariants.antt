use Rattle.std.proofs.Common.{◌≡◌, map, take}
use Rattle.vx_rows_values.specs.ValueView.{val_of}
use Rattle.vx_rows_values.proofs.value.copied_values.Given as goal

abbrev pub invariant-loop-value : goal.invariant-loop-value
invariant-loop-value l = map val_of l.copies.items ≡ map val_of (take l.value-index l.values)

use Rattle.std.proofs.Common.{◌≡◌, map, take}
use Rattle.vx_rows_values.specs.ValueView.{val_of, cell_val}
use Rattle.vx_match_keys.proofs.composite_keys.row_cells.Given as goal

abbrev pub invariant-loop-value : goal.invariant-loop-value
invariant-loop-value l = map cell_val l.cells.items ≡ map val_of (take l.value-index l.values)

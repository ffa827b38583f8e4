use Rattle.std.proofs.Common.{◌≡◌, map, take}
use Rattle.vx_rows_values.specs.ValueView.{cell_val}
use Rattle.vx_match_keys.proofs.row_keys.row_of.Given as goal

abbrev pub invariant-loop-cell : goal.invariant-loop-cell
invariant-loop-cell l = l.row ≡ map cell_val (take l.cell-index l.cells)

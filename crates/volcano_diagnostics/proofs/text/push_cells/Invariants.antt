use Rattle.std.proofs.Common.{◌≡◌, ◌++◌, drop, flat_map}
use Rattle.volcano_diagnostics.specs.Text.{cell_text}
use Rattle.volcano_diagnostics.proofs.text.push_cells.Given as goal

abbrev pub invariant-loop-cell : goal.invariant-loop-cell
invariant-loop-cell l = l.text.items ++ flat_map cell_text (drop l.cell-index l.cells) ≡ l.fn.text.items ++ flat_map cell_text l.cells

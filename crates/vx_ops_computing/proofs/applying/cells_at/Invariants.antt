use Rattle.std.proofs.Common.{◌≡◌, map, take}
use Rattle.vx_rows_values.specs.ValueView.{cell_val}
use Rattle.vx_ops_computing.specs.Operands.{values_at}
use Rattle.vx_ops_computing.proofs.applying.cells_at.Given as goal

abbrev pub invariant-loop-operand : goal.invariant-loop-operand
invariant-loop-operand l = map cell_val l.cells.items ≡ values_at (take l.operand-index l.operands) l.k

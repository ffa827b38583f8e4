use Rattle.std.proofs.Common.{◌≡◌, map, take}
use Rattle.vx_rows_values.specs.Types.{type_at}
use Rattle.vx_ops_kernels.proofs.projection.types_at.Given as goal

abbrev pub invariant-loop-column : goal.invariant-loop-column
invariant-loop-column l = l.found.items ≡ map (type_at l.types) (take l.column-index l.columns)

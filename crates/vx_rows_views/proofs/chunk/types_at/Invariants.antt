use Rattle.std.proofs.Common.{◌≡◌, map, take}
use Rattle.vx_rows_values.specs.Types.{type_at}
use Rattle.vx_rows_views.proofs.chunk.types_at.Given as goal

abbrev pub invariant-loop-i : goal.invariant-loop-i
invariant-loop-i l = l.found.items ≡ map (type_at l.types) (take l.i l.cols)

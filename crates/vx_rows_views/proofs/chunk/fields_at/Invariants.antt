use Rattle.std.proofs.Common.{◌≡◌, map, take}
use Rattle.vx_rows_views.specs.Chunks.{field_at}
use Rattle.vx_rows_views.proofs.chunk.fields_at.Given as goal

abbrev pub invariant-loop-i : goal.invariant-loop-i
invariant-loop-i l = l.found.items ≡ map (field_at l.fields) (take l.i l.cols)

use Rattle.std.proofs.Common.{◌≡◌, map, take}
use Rattle.vx_rows_views.specs.Chunks.{sliced}
use Rattle.vx_rows_views.proofs.chunk.parts_slice.Given as goal

abbrev pub invariant-loop-i : goal.invariant-loop-i
invariant-loop-i l = l.found.items ≡ map (sliced l.from l.to) (take l.i l.parts)

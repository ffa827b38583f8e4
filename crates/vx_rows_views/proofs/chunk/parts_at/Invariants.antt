use Rattle.std.proofs.Common.{◌≡◌, map, take}
use Rattle.vx_rows_views.specs.Chunks.{chosen}
use Rattle.vx_rows_views.proofs.chunk.parts_at.Given as goal

abbrev pub invariant-loop-i : goal.invariant-loop-i
invariant-loop-i l = l.found.items ≡ map (chosen l.places) (take l.i l.parts)

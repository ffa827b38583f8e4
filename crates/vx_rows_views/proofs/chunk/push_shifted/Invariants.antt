use Rattle.std.proofs.Common.{◌≡◌, ◌++◌, map, take}
use Rattle.vx_rows_views.specs.Chunks.{shifted}
use Rattle.vx_rows_views.proofs.chunk.push_shifted.Given as goal

abbrev pub invariant-loop-i : goal.invariant-loop-i
invariant-loop-i l = l.fields.items ≡ l.initial.fields.items ++ map (shifted l.before) (take l.i l.others)

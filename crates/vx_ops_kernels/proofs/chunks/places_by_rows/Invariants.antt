use Rattle.std.proofs.Common.{◌≡◌, take}
use Rattle.vx_rows_views.specs.Selected.{places_of}
use Rattle.vx_ops_kernels.specs.Holds.{holds_of}
use Rattle.vx_ops_kernels.proofs.chunks.places_by_rows.Given as goal

abbrev pub invariant-loop-i : goal.invariant-loop-i
invariant-loop-i l = l.places.items ≡ places_of (holds_of l.condition) (take l.i l.chunk.rows)

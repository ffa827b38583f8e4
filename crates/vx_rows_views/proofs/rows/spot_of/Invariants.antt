use Rattle.std.proofs.Common.{◌≡◌, ◌+◌, length, take}
use Rattle.vx_rows_views.specs.Chunks.{all_rows}
use Rattle.vx_rows_views.proofs.rows.spot_of.Given as goal

abbrev pub invariant-loop-chunk : goal.invariant-loop-chunk
invariant-loop-chunk l = l.i ≡ length (all_rows (take l.chunk l.chunks)) + l.place

use Rattle.std.proofs.Common.{◌≡◌, take}
use Rattle.vx_rows.specs.Lists.{each_below}
use Rattle.vx_rows_views.specs.Chunks.{own_field}
use Rattle.vx_rows_views.proofs.chunk.are_own.Given as goal

abbrev pub invariant-loop-column : goal.invariant-loop-column
invariant-loop-column l = take l.column l.fields ≡ each_below l.column own_field

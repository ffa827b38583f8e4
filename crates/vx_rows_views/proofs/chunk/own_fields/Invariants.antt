use Rattle.std.proofs.Common.{◌≡◌}
use Rattle.vx_rows.specs.Lists.{each_below}
use Rattle.vx_rows_views.specs.Chunks.{own_field}
use Rattle.vx_rows_views.proofs.chunk.own_fields.Given as goal

abbrev pub invariant-loop-column : goal.invariant-loop-column
invariant-loop-column l = l.fields.items ≡ each_below l.column own_field

use Rattle.std.proofs.Common.{◌≡◌, take, fold}
use Rattle.vx_rows_views.specs.Chunks.{all_rows}
use Rattle.vx_catalog_formats.specs.Table.{widened}
use Rattle.vx_catalog_formats.proofs.widths.widen_for_all.Given as goal

abbrev pub invariant-loop-i : goal.invariant-loop-i
invariant-loop-i l = l.widths ≡ fold widened l.initial.widths (all_rows (take l.i l.chunks))

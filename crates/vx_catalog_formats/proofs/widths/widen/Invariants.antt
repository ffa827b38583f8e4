use Rattle.std.proofs.Common.{◌≡◌, ◌++◌, drop, take}
use Rattle.vx_rows.specs.View.{row}
use Rattle.vx_catalog_formats.specs.Table.{widened}
use Rattle.vx_catalog_formats.proofs.widths.widen.Given as goal

abbrev pub invariant-loop-column : goal.invariant-loop-column
invariant-loop-column l = take l.column l.widths ++ widened (drop l.column l.widths) (drop l.column (row l.chunk l.i)) ≡ widened l.initial.widths (row l.chunk l.i)

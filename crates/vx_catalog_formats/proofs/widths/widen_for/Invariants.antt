use Rattle.std.proofs.Common.{◌≡◌, drop, fold}
use Rattle.vx_catalog_formats.specs.Table.{widened}
use Rattle.vx_catalog_formats.proofs.widths.widen_for.Given as goal

abbrev pub invariant-loop-i : goal.invariant-loop-i
invariant-loop-i l = fold widened l.widths (drop l.i l.chunk.rows) ≡ fold widened l.initial.widths l.chunk.rows

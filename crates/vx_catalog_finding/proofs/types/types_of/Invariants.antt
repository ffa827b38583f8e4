use Rattle.std.proofs.Common.{◌≡◌}
use Rattle.vx_catalog_finding.specs.Found.{types_in}
use Rattle.vx_catalog_finding.proofs.types.types_of.Given as goal

abbrev pub invariant-loop-column : goal.invariant-loop-column
invariant-loop-column l = l.types.items ≡ types_in l.column l.rows.rows

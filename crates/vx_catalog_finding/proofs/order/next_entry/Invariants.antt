use Rattle.std.proofs.Common.{◌≡◌, None}
use Rattle.vx_catalog_finding.specs.Found.{next_entry}
use Rattle.vx_catalog_finding.proofs.order.next_entry.Given as goal

abbrev pub invariant-loop-column : goal.invariant-loop-column
invariant-loop-column l = next_entry l.order l.rows.rows l.column ≡ None

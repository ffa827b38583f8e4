use Rattle.std.proofs.Common.{◌≡◌, map}
use Rattle.vx_catalog_finding.specs.Found.{single_keys}
use Rattle.vx_catalog_finding.proofs.keys.single_keys.Given as goal

abbrev pub invariant-loop-column : goal.invariant-loop-column
invariant-loop-column l = map (λ k. k.items) l.keys.items ≡ single_keys l.column l.rows.rows

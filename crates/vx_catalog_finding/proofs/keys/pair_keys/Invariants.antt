use Rattle.std.proofs.Common.{◌≡◌, map}
use Rattle.vx_catalog_finding.specs.Found.{pair_keys}
use Rattle.vx_catalog_finding.proofs.keys.pair_keys.Given as goal

abbrev pub invariant-loop-second : goal.invariant-loop-second
invariant-loop-second l = map (λ k. k.items) l.keys.items ≡ pair_keys l.second l.rows.rows

use Rattle.std.proofs.Common.{◌≡◌, ◌++◌, map}
use Rattle.vx_catalog_finding.specs.Found.{pairs_with}
use Rattle.vx_catalog_finding.proofs.keys.push_pairs_with.Given as goal

abbrev pub invariant-loop-first : goal.invariant-loop-first
invariant-loop-first l = map (λ k. k.items) l.keys.items ≡ map (λ k. k.items) l.initial.keys.items ++ pairs_with l.second l.first l.rows.rows

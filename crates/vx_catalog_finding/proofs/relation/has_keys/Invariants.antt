use Rattle.std.proofs.Common.{◌≡◌, length, map, take}
use Rattle.vx_catalog_finding.proofs.relation.has_keys.Given as goal

abbrev pub invariant-loop-i : goal.invariant-loop-i
invariant-loop-i l = (length l.relation.keys ≡ length l.keys) × (take l.i l.relation.keys ≡ map (λ k. k.items) (take l.i l.keys))

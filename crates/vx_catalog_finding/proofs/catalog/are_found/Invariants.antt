use Rattle.std.proofs.Common.{◌≡◌, length, take}
use Rattle.vx_catalog_finding.proofs.catalog.are_found.Given as goal

abbrev pub invariant-loop-i : goal.invariant-loop-i
invariant-loop-i l = (length l.catalog ≡ length l.relations) × (take l.i l.catalog ≡ take l.i l.relations)

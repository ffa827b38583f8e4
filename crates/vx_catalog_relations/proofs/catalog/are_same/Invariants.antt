use Rattle.std.proofs.Common.{◌≡◌, length, take}
use Rattle.vx_catalog_relations.proofs.catalog.are_same.Given as goal

abbrev pub invariant-loop-i : goal.invariant-loop-i
invariant-loop-i l = (length l.relations ≡ length l.others) × (take l.i l.relations ≡ take l.i l.others)

use Rattle.std.proofs.Common.{◌≡◌, map, take, Ok}
use Rattle.vx_catalog_finding.specs.Finding.{text_of, all_found}
use Rattle.vx_catalog_finding.proofs.catalog.find_relations.Given as goal

abbrev pub invariant-loop-i : goal.invariant-loop-i
invariant-loop-i l = all_found (map text_of (take l.i l.texts)) ≡ map Ok l.relations.items

use Rattle.std.proofs.Common.{◌≡◌, map, take, string_bytes}
use Rattle.vx_catalog_finding.specs.Layout.{relation_text}
use Rattle.vx_catalog_finding.proofs.layout.relation_texts.Given as goal

abbrev pub invariant-loop-relation : goal.invariant-loop-relation
invariant-loop-relation l = map string_bytes l.texts.items ≡ map relation_text (take l.relation-index l.relations)

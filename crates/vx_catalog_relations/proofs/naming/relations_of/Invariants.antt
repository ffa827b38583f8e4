use Rattle.std.proofs.Common.{◌≡◌, [], map, drop}
use Rattle.vx_catalog_relations.specs.Walk.{walk_onto}
use Rattle.vx_catalog_relations.specs.Form.{RelationText}
use Rattle.vx_catalog_relations.specs.Naming.{relation_after}
use Rattle.vx_catalog_relations.proofs.naming.relations_of.Given as goal

abbrev pub invariant-loop-text : goal.invariant-loop-text
invariant-loop-text l = walk_onto relation_after l.relations.items (map (λ (t : RelationText). t) (drop l.text-index l.texts)) ≡ walk_onto relation_after [] l.texts

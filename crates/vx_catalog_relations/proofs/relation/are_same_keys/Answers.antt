use Rattle.vx_catalog_relations.proofs.NameFacts.{same_lists}
use Rattle.vx_catalog_relations.proofs.relation.are_same_keys.Goals as goal

pub returns : goal.returns
returns c = same_lists c.args.keys.now c.args.others.now c.eq.result c.eq.ensures

use Rattle.vx_catalog_relations.proofs.NameFacts.{same_texts}
use Rattle.vx_catalog_finding.proofs.relation.are_same_names.Goals as goal

pub returns : goal.returns
returns c = same_texts c.args.names.now c.args.others.now c.eq.result c.eq.ensures

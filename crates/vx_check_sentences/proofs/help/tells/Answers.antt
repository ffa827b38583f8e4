use Rattle.vx_catalog_relations.specs.Catalog.{relation_at}
use Rattle.vx_check_sentences.proofs.help.tells.Goals as goal

pub facts_of-requires : goal.facts_of-requires
facts_of-requires c =
    let judges = rw c.in-Second.is at c.requires.1 in
    (relation_at c.requires.0, judges.known)

use Rattle.std.proofs.Common.{rules, ◌≡◌, true}
use Rattle.std.specs.Prelude.{is_some}
use Rattle.volcano_embedding.specs.Handle.{catalog_in}
use Rattle.volcano_embed.proofs.GivenFacts.{shares}
use Rattle.volcano_embed.proofs.catalog.volcano_catalog_share.Goals as goal

pub returns-in-Ok-clause-shared : goal.returns-in-Ok-clause-shared
returns-in-Ok-clause-shared c =
    let is_there : is_some (catalog_in c.args.catalog.now) ≡ true = search rules in
    shares (catalog_in c.args.catalog.now) (catalog_in c.in-Ok.handle) is_there c.in-Ok.ensures.same

-- What is behind a handle.
use Rattle.std.specs.Prelude.{List, Option}
use Rattle.vx_catalog_relations.specs.Relation.{Relation}
use Rattle.volcano_embedding.specs.declared.handle.CatalogHandle.{CatalogHandle}

-- the relations behind a handle, where it is open
abbrev pub catalog_in : CatalogHandle → Option (List Relation)
catalog_in h = h.held.session

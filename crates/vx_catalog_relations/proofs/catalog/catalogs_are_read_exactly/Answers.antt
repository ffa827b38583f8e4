use Rattle.vx_catalog_relations.proofs.Stated.{catalogs_read_exactly}
use Rattle.vx_catalog_relations.proofs.catalog.catalogs_are_read_exactly.Goals as goal

pub returns : goal.returns
returns c = catalogs_read_exactly

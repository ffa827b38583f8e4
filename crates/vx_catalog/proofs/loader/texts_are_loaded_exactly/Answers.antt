use Rattle.vx_catalog.proofs.Meant.{texts_load_exactly}
use Rattle.vx_catalog.proofs.loader.texts_are_loaded_exactly.Goals as goal

pub returns : goal.returns
returns c = texts_load_exactly

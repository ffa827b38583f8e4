use Rattle.vx_catalog_loading.proofs.Cut.{unquoted_is}
use Rattle.vx_catalog_loading.proofs.pieces.is_unquoted.Goals as goal

pub returns : goal.returns
returns c = rw c.contains.ensures.value (unquoted_is c.args.bytes.now)

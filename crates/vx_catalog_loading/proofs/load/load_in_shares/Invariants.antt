use Rattle.std.proofs.Common.{◌&&◌, not}
use Rattle.vx_catalog_loading.proofs.load.load_in_shares.Given as goal

abbrev pub ghosts-load_text : goal.ghosts-load_text
ghosts-load_text g a = record {
  text = g.R.ByteIn.remaining a.port.now;
  is_reliable = g.R.ByteIn.is_reliable a.port.now && not (g.R.ByteIn.has_failed a.port.now);
  name = a.port.ghost_name;
}

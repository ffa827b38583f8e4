use Rattle.std.proofs.Common.{◌≤◌, length}
use Rattle.vx_catalog_loading.specs.Pieces.{AreCuts}
use Rattle.vx_catalog_loading.proofs.cuts.cuts_of.Given as goal

abbrev pub invariant-loop : goal.invariant-loop
invariant-loop l = record {
  near : l.last ≤ length l.text;
  cuts : AreCuts l.text l.cuts.items l.last;
}

use Rattle.vx_catalog_loading.specs.Pieces.{AreDrawn}
use Rattle.vx_catalog_loading.proofs.pieces.read_drawn.Given as goal

abbrev pub invariant-loop : goal.invariant-loop
invariant-loop l = AreDrawn l.types l.text l.cuts l.reads.items

use Rattle.vx_catalog_loading.specs.Reading.{Moves}
use Rattle.vx_catalog_loading.proofs.buffer.fill.Given as goal

abbrev pub invariant-loop : goal.invariant-loop
invariant-loop g l = Moves l.initial.buffer.items (g.S.Read.remaining l.initial.source) l.buffer.items (g.S.Read.remaining l.source)

use Rattle.std.proofs.Common.{◌≡◌, ◌++◌, map, drop}
use Rattle.vx_catalog_relations.proofs.naming.falls_of.Given as goal

abbrev pub invariant-loop-entry : goal.invariant-loop-entry
invariant-loop-entry l = l.falls.items ++ map (λ (e : _). e.falling) (drop l.entry-index l.order) ≡ map (λ (e : _). e.falling) l.order

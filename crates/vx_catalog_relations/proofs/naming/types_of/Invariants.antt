use Rattle.std.proofs.Common.{◌≡◌, ◌++◌, map, drop}
use Rattle.vx_catalog_relations.proofs.naming.types_of.Given as goal

abbrev pub invariant-loop-column : goal.invariant-loop-column
invariant-loop-column l = l.types.items ++ map (λ (c : _). c.kind) (drop l.column-index l.columns) ≡ map (λ (c : _). c.kind) l.columns

use Rattle.std.proofs.Common.{◌≡◌, map, take, string_bytes}
use Rattle.vx_catalog_relations.specs.Naming.{name_at}
use Rattle.vx_plan.proofs.naming.names_at.Given as goal

abbrev pub invariant-loop-column : goal.invariant-loop-column
invariant-loop-column l = map string_bytes l.found.items ≡ map (name_at l.names) (take l.column-index l.columns)

use Rattle.std.proofs.Common.{◌≡◌, [], map, drop, string_bytes}
use Rattle.vx_catalog_json.specs.Look.{OrderText}
use Rattle.vx_catalog_relations.specs.Walk.{walk_onto}
use Rattle.vx_catalog_relations.specs.Naming.{column_of}
use Rattle.vx_catalog_relations.proofs.naming.ordered_columns.Given as goal

abbrev pub invariant-loop-entry : goal.invariant-loop-entry
invariant-loop-entry l = walk_onto (column_of (map string_bytes l.names)) l.columns.items (map (λ (e : OrderText). e.name) (drop l.entry-index l.order)) ≡ walk_onto (column_of (map string_bytes l.names)) [] (map (λ (e : OrderText). e.name) l.order)

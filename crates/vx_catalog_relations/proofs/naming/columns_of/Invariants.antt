use Rattle.std.proofs.Common.{◌≡◌, [], map, drop, string_bytes}
use Rattle.vx_catalog_relations.specs.Walk.{walk_onto}
use Rattle.vx_catalog_relations.specs.Naming.{column_of}
use Rattle.vx_catalog_relations.proofs.naming.columns_of.Given as goal

abbrev pub invariant-loop-name : goal.invariant-loop-name
invariant-loop-name l = walk_onto (column_of (map string_bytes l.names)) l.columns.items (map string_bytes (drop l.name-index l.list)) ≡ walk_onto (column_of (map string_bytes l.names)) [] (map string_bytes l.list)

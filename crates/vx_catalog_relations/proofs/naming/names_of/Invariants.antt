use Rattle.std.proofs.Common.{◌≡◌, [], map, drop, string_bytes}
use Rattle.vx_catalog_relations.specs.Walk.{walk_onto}
use Rattle.vx_catalog_relations.specs.Naming.{name_once}
use Rattle.vx_catalog_relations.specs.Form.{ColumnText}
use Rattle.vx_catalog_relations.proofs.naming.names_of.Given as goal

abbrev pub invariant-loop-column : goal.invariant-loop-column
invariant-loop-column l = walk_onto name_once (map string_bytes l.names.items) (map (λ (c : ColumnText). c.name) (drop l.column-index l.columns)) ≡ walk_onto name_once [] (map (λ (c : ColumnText). c.name) l.columns)

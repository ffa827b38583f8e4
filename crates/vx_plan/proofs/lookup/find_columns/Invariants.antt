use Rattle.std.proofs.Common.{◌≡◌, [], map, drop, string_bytes}
use Rattle.vx_plan.specs.Lookup.{walk_onto, find_column}
use Rattle.vx_plan.proofs.lookup.find_columns.Given as goal

abbrev pub invariant-loop-name : goal.invariant-loop-name
invariant-loop-name l =
    walk_onto (find_column l.node l.names) l.found.items (map string_bytes (drop l.name-index l.list))
    ≡ walk_onto (find_column l.node l.names) [] (map string_bytes l.list)

use Rattle.std.proofs.Common.{◌≡◌, [], map, drop, string_bytes}
use Rattle.vx_plan.specs.Lookup.{walk_onto, find_columns}
use Rattle.vx_plan.proofs.lookup.find_keys.Given as goal

abbrev pub invariant-loop-key : goal.invariant-loop-key
invariant-loop-key l =
    walk_onto (find_columns l.node l.names) (map (λ k. k.items) l.found.items) (map (λ k. map string_bytes k.items) (drop l.key-index l.keys))
    ≡ walk_onto (find_columns l.node l.names) [] (map (λ k. map string_bytes k.items) l.keys)

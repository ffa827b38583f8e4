use Rattle.std.proofs.Common.{◌≡◌, ℕ, List, [], map, drop, Vec, String, Global, string_bytes}
use Rattle.vx_catalog_relations.specs.Walk.{walk_onto}
use Rattle.vx_catalog_relations.specs.Naming.{columns_of}
use Rattle.vx_catalog_relations.proofs.naming.keys_of.Given as goal

abbrev pub invariant-loop-key : goal.invariant-loop-key
invariant-loop-key l = walk_onto (λ (prior : List (List ℕ)) (key : List (List ℕ)). columns_of (map string_bytes l.names) key) (map (λ (k : Vec ℕ Global). k.items) l.found.items) (map (λ (k : Vec (String Global) Global). map string_bytes k.items) (drop l.key-index l.keys)) ≡ walk_onto (λ (prior : List (List ℕ)) (key : List (List ℕ)). columns_of (map string_bytes l.names) key) [] (map (λ (k : Vec (String Global) Global). map string_bytes k.items) l.keys)

use Rattle.std.proofs.Common.{◌≡◌, ℕ, List, [], map, drop, take, bytes_eq}
use Rattle.std.specs.List.{list_any}
use Rattle.vx_plan_json.specs.Fault.{duplicate_column}
use Rattle.vx_plan.specs.Lookup.{tested_onto, is_among}
use Rattle.vx_plan.proofs.SeenFacts.{has_text}
use Rattle.vx_plan.proofs.lookup.test_distinct_names.Given as goal

abbrev pub invariant-loop-i : goal.invariant-loop-i
invariant-loop-i l = record {
  tested : tested_onto is_among (duplicate_column l.node) (map (λ (n : List ℕ). n) (take l.i l.names)) (map (λ (n : List ℕ). n) (drop l.i l.names)) ≡ tested_onto is_among (duplicate_column l.node) [] (map (λ (n : List ℕ). n) l.names);
  seen : (bs : List ℕ) → has_text l.seen bs ≡ list_any (bytes_eq bs) (map (λ (n : List ℕ). n) (take l.i l.names));
}

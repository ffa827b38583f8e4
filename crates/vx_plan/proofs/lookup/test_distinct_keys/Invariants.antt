use Rattle.std.proofs.Common.{◌≡◌, map, drop, string_bytes}
use Rattle.vx_plan.specs.Lookup.{test_distinct_keys}
use Rattle.vx_plan.proofs.lookup.test_distinct_keys.Given as goal

abbrev pub invariant-loop-key : goal.invariant-loop-key
invariant-loop-key l = test_distinct_keys l.node (map (λ k. map string_bytes k.items) (drop l.key-index l.keys)) ≡ test_distinct_keys l.node (map (λ k. map string_bytes k.items) l.keys)

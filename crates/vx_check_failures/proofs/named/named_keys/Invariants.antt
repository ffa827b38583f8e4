use Rattle.std.proofs.Common.{◌≡◌, [], map, slice_index, drop}
use Rattle.vx_plan_facts.specs.FactsView.{facts_of}
use Rattle.vx_check_failures.specs.Shown.{with_named_keys}
use Rattle.vx_check_failures.proofs.named.named_keys.Given as goal

abbrev pub invariant-loop-key : goal.invariant-loop-key
invariant-loop-key l =
    with_named_keys (slice_index (facts_of l.facts).firsts) (map (λ k. k.items) l.found.items) (map (λ k. k.items) (drop l.key-index l.keys))
    ≡ with_named_keys (slice_index (facts_of l.facts).firsts) [] (map (λ k. k.items) l.keys)

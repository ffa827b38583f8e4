use Rattle.std.proofs.Common.{◌≡◌, [], map, drop, take}
use Rattle.vx_plan_json.specs.Document.{pair_form}
use Rattle.vx_plan.specs.Lookup.{tested_onto, is_among_pairs}
use Rattle.vx_plan_json.specs.Fault.{duplicate_column}
use Rattle.vx_plan.proofs.lookup.test_distinct_pairs.Given as goal

abbrev pub invariant-loop-i : goal.invariant-loop-i
invariant-loop-i l =
    tested_onto is_among_pairs (λ p. duplicate_column l.node p.0) (map pair_form (take l.i l.pairs)) (map pair_form (drop l.i l.pairs)) ≡ tested_onto is_among_pairs (λ p. duplicate_column l.node p.0) [] (map pair_form l.pairs)

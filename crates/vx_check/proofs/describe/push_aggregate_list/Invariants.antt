use Rattle.std.proofs.Common.{◌≡◌, ◌++◌, ◌+◌, map, string_bytes, codes, false, drop, nat_lt}
use Rattle.vx_plan_nodes.specs.Outline.{aggregate_of}
use Rattle.vx_check.specs.Explain.{separated, aggregate_texts}
use Rattle.vx_check.proofs.describe.push_aggregate_list.Given as goal

abbrev pub invariant-loop-i : goal.invariant-loop-i
invariant-loop-i l =
    string_bytes l.text ++ separated (codes ", ") (nat_lt 0 l.i) (aggregate_texts l.inputs l.outputs (l.first + l.i) (map aggregate_of (drop l.i l.aggregates)))
    ≡ string_bytes l.initial.text ++ separated (codes ", ") false (aggregate_texts l.inputs l.outputs l.first (map aggregate_of l.aggregates))

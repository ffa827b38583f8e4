use Rattle.std.proofs.Common.{◌≡◌, ◌++◌, map, string_bytes, codes, false, drop, nat_lt}
use Rattle.vx_plan_json.specs.Document.{aggregate_form}
use Rattle.vx_plan_drawing.specs.Description.{separated, aggregate_text}
use Rattle.vx_plan_drawing.proofs.describe.push_aggregate_list.Given as goal

abbrev pub invariant-loop-i : goal.invariant-loop-i
invariant-loop-i l =
    string_bytes l.text ++ separated (codes ", ") (nat_lt 0 l.i) (map aggregate_text (map aggregate_form (drop l.i l.aggregates)))
    ≡ string_bytes l.initial.text ++ separated (codes ", ") false (map aggregate_text (map aggregate_form l.aggregates))

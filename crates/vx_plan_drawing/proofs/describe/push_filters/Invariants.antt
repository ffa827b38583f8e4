use Rattle.std.proofs.Common.{◌≡◌, ◌++◌, map, string_bytes, codes, false, drop, nat_lt}
use Rattle.vx_plan_json.specs.Document.{filter_form}
use Rattle.vx_plan_drawing.specs.Description.{separated, filter_text}
use Rattle.vx_plan_drawing.proofs.describe.push_filters.Given as goal

abbrev pub invariant-loop-i : goal.invariant-loop-i
invariant-loop-i l =
    string_bytes l.text ++ separated (codes " and ") (nat_lt 0 l.i) (map filter_text (map filter_form (drop l.i l.filters)))
    ≡ string_bytes l.initial.text ++ separated (codes " and ") false (map filter_text (map filter_form l.filters))

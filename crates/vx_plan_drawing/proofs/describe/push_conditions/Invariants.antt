use Rattle.std.proofs.Common.{◌≡◌, ◌++◌, map, string_bytes, codes, false, drop, nat_lt}
use Rattle.vx_plan_json.specs.Document.{condition_form}
use Rattle.vx_plan_drawing.specs.Description.{separated, condition_text}
use Rattle.vx_plan_drawing.proofs.describe.push_conditions.Given as goal

abbrev pub invariant-loop-i : goal.invariant-loop-i
invariant-loop-i l =
    string_bytes l.text ++ separated (codes " and ") (nat_lt 0 l.i) (map condition_text (map condition_form (drop l.i l.conditions)))
    ≡ string_bytes l.initial.text ++ separated (codes " and ") false (map condition_text (map condition_form l.conditions))

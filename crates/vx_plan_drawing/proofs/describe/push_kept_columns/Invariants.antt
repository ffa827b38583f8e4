use Rattle.std.proofs.Common.{◌≡◌, ◌++◌, map, string_bytes, codes, false, drop, nat_lt}
use Rattle.vx_plan_json.specs.Document.{output_form}
use Rattle.vx_plan_drawing.specs.Description.{separated, kept_text}
use Rattle.vx_plan_drawing.proofs.describe.push_kept_columns.Given as goal

abbrev pub invariant-loop-i : goal.invariant-loop-i
invariant-loop-i l =
    string_bytes l.text ++ separated (codes ",") (nat_lt 0 l.i) (map kept_text (map output_form (drop l.i l.outputs)))
    ≡ string_bytes l.initial.text ++ separated (codes ",") false (map kept_text (map output_form l.outputs))

use Rattle.std.proofs.Common.{◌≡◌, ◌++◌, map, string_bytes, codes, false, drop, nat_lt}
use Rattle.vx_plan_json.specs.Document.{entry_form}
use Rattle.vx_plan_drawing.specs.Description.{separated, made_text}
use Rattle.vx_plan_drawing.proofs.describe.push_entries.Given as goal

abbrev pub invariant-loop-i : goal.invariant-loop-i
invariant-loop-i l =
    string_bytes l.text ++ separated (codes ",") (nat_lt 0 l.i) (map made_text (map entry_form (drop l.i l.entries)))
    ≡ string_bytes l.initial.text ++ separated (codes ",") false (map made_text (map entry_form l.entries))

use Rattle.std.proofs.Common.{◌≡◌, ◌++◌, map, string_bytes, codes, false, drop, nat_lt}
use Rattle.vx_plan_json.specs.Document.{pair_form}
use Rattle.vx_plan_drawing.specs.Description.{separated, pair_text}
use Rattle.vx_plan_drawing.proofs.describe.push_pairs.Given as goal

abbrev pub invariant-loop-i : goal.invariant-loop-i
invariant-loop-i l =
    string_bytes l.text ++ separated (codes ",") (nat_lt 0 l.i) (map pair_text (map pair_form (drop l.i l.on)))
    ≡ string_bytes l.initial.text ++ separated (codes ",") false (map pair_text (map pair_form l.on))

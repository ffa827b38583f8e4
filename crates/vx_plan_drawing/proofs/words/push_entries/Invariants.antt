use Rattle.std.proofs.Common.{◌≡◌, ◌++◌, map, string_bytes, codes, false, drop, nat_lt}
use Rattle.vx_plan_drawing.specs.Description.{separated, entry_text}
use Rattle.vx_plan_drawing.proofs.words.push_entries.Given as goal

abbrev pub invariant-loop-i : goal.invariant-loop-i
invariant-loop-i l =
    string_bytes l.text ++ separated (codes ",") (nat_lt 0 l.i) (map entry_text (drop l.i l.order))
    ≡ string_bytes l.initial.text ++ separated (codes ",") false (map entry_text l.order)

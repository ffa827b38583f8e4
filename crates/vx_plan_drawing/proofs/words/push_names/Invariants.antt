use Rattle.std.proofs.Common.{◌≡◌, ◌++◌, map, string_bytes, codes, false, drop, nat_lt}
use Rattle.vx_plan_drawing.specs.Description.{separated}
use Rattle.vx_plan_drawing.proofs.words.push_names.Given as goal

abbrev pub invariant-loop-i : goal.invariant-loop-i
invariant-loop-i l =
    string_bytes l.text ++ separated (codes ",") (nat_lt 0 l.i) (map string_bytes (drop l.i l.names))
    ≡ string_bytes l.initial.text ++ separated (codes ",") false (map string_bytes l.names)

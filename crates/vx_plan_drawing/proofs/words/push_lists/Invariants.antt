use Rattle.std.proofs.Common.{◌≡◌, ◌++◌, map, string_bytes, codes, false, drop, nat_lt}
use Rattle.vx_plan_drawing.specs.Description.{separated, list_text}
use Rattle.vx_plan_drawing.proofs.words.push_lists.Given as goal

abbrev pub invariant-loop-i : goal.invariant-loop-i
invariant-loop-i l =
    string_bytes l.text ++ separated (codes ";") (nat_lt 0 l.i) (map list_text (map (λ k. map string_bytes k.items) (drop l.i l.keys)))
    ≡ string_bytes l.initial.text ++ separated (codes ";") false (map list_text (map (λ k. map string_bytes k.items) l.keys))

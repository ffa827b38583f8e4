use Rattle.std.proofs.Common.{◌≡◌, ◌++◌, map, string_bytes, codes, false, drop, nat_lt}
use Rattle.vx_check.specs.Explain.{separated}
use Rattle.volcano_stats.specs.Json.{line_json}
use Rattle.volcano_stats.proofs.json.push_lines.Given as goal

abbrev pub invariant-loop-i : goal.invariant-loop-i
invariant-loop-i l =
    let words = map (λ w. w.now) l.words in
    string_bytes l.text ++ separated (codes ",") (nat_lt 0 l.i) (map (line_json words) (drop l.i l.lines))
    ≡ string_bytes l.initial.text ++ separated (codes ",") false (map (line_json words) l.lines)

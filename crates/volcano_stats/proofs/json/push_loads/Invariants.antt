use Rattle.std.proofs.Common.{◌≡◌, ◌++◌, map, string_bytes, codes, false, drop, nat_lt}
use Rattle.vx_check.specs.Explain.{separated}
use Rattle.volcano_stats.specs.Json.{load_json}
use Rattle.volcano_stats.proofs.json.push_loads.Given as goal

abbrev pub invariant-loop-i : goal.invariant-loop-i
invariant-loop-i l =
    string_bytes l.text ++ separated (codes ",") (nat_lt 0 l.i) (map (load_json l.catalog) (drop l.i l.loads))
    ≡ string_bytes l.initial.text ++ separated (codes ",") false (map (load_json l.catalog) l.loads)

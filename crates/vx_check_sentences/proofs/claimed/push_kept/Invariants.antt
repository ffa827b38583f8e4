use Rattle.std.proofs.Common.{◌≡◌, ◌++◌, map, string_bytes, codes, false, drop, nat_lt}
use Rattle.vx_check.specs.Explain.{name_at, separated}
use Rattle.vx_check_sentences.proofs.claimed.push_kept.Given as goal

abbrev pub invariant-loop-i : goal.invariant-loop-i
invariant-loop-i l =
    string_bytes l.text ++ separated (codes ",") (nat_lt 0 l.i) (map (name_at l.names) (map (λ k. k.column) (drop l.i l.kept)))
    ≡ string_bytes l.initial.text ++ separated (codes ",") false (map (name_at l.names) (map (λ k. k.column) l.kept))

use Rattle.std.proofs.Common.{◌≡◌, ◌++◌, map, string_bytes, codes, false, drop, nat_lt}
use Rattle.vx_check.specs.Explain.{list_text, separated}
use Rattle.vx_check_sentences.proofs.words.push_lists.Given as goal

abbrev pub invariant-loop-i : goal.invariant-loop-i
invariant-loop-i l =
    string_bytes l.text ++ separated (codes ";") (nat_lt 0 l.i) (map (list_text l.names) (map (λ k. k.items) (drop l.i l.keys)))
    ≡ string_bytes l.initial.text ++ separated (codes ";") false (map (list_text l.names) (map (λ k. k.items) l.keys))

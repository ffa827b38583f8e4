use Rattle.std.proofs.Common.{◌≡◌, ◌++◌, map, string_bytes, drop}
use Rattle.vx_check_sentences.specs.Shown.{keys_lack}
use Rattle.vx_check_sentences.proofs.followed.push_keys_lack.Given as goal

abbrev pub invariant-loop-key : goal.invariant-loop-key
invariant-loop-key l =
    string_bytes l.text ++ keys_lack l.names l.order (map (λ k. k.items) (drop l.key-index l.keys))
    ≡ string_bytes l.initial.text ++ keys_lack l.names l.order (map (λ k. k.items) l.keys)

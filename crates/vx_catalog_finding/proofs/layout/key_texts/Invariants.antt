use Rattle.std.proofs.Common.{◌≡◌, map, take, string_bytes}
use Rattle.vx_catalog_finding.specs.Layout.{key_text}
use Rattle.vx_catalog_finding.proofs.layout.key_texts.Given as goal

abbrev pub invariant-loop-key : goal.invariant-loop-key
invariant-loop-key l = map string_bytes l.texts.items ≡ map (key_text (map string_bytes l.names)) (map (λ k. k.items) (take l.key-index l.keys))

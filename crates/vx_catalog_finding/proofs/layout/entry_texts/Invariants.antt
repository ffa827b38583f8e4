use Rattle.std.proofs.Common.{◌≡◌, map, take, string_bytes}
use Rattle.vx_catalog_finding.specs.Layout.{entry_text}
use Rattle.vx_catalog_finding.proofs.layout.entry_texts.Given as goal

abbrev pub invariant-loop-entry : goal.invariant-loop-entry
invariant-loop-entry l = map string_bytes l.texts.items ≡ map (entry_text (map string_bytes l.names)) (take l.entry-index l.order)

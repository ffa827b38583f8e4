use Rattle.std.proofs.Common.{◌≡◌, ◌++◌, map, drop, string_bytes}
use Rattle.vx_catalog_finding.specs.Layout.{column_texts}
use Rattle.vx_catalog_finding.proofs.layout.column_texts.Given as goal

abbrev pub invariant-loop-i : goal.invariant-loop-i
invariant-loop-i l = map string_bytes l.texts.items ++ column_texts (map string_bytes (drop l.i l.names)) (drop l.i l.types) ≡ column_texts (map string_bytes l.names) l.types

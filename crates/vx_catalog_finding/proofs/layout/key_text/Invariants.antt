use Rattle.std.proofs.Common.{◌≡◌, ℕ, map, take, string_bytes}
use Rattle.vx_catalog_relations.specs.Naming.{name_at}
use Rattle.vx_catalog_finding.specs.Layout.{quoted}
use Rattle.vx_catalog_finding.proofs.layout.key_text.Given as goal

abbrev pub invariant-loop-column : goal.invariant-loop-column
invariant-loop-column l = map string_bytes l.columns.items ≡ map (λ (c : ℕ). quoted (name_at (map string_bytes l.names) c)) (take l.column-index l.key)

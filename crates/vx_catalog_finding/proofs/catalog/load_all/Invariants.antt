use Rattle.std.proofs.Common.{ℕ, ◌<◌, map}
use Rattle.vx_catalog_relations.specs.Catalog.{relation_at}
use Rattle.vx_catalog_finding.specs.Finding.{text_of, text_at, Loads}
use Rattle.vx_catalog_finding.proofs.catalog.load_all.Given as goal

abbrev pub invariant-loop-i : goal.invariant-loop-i
invariant-loop-i g l = (k : ℕ) → k < l.i → Loads (relation_at l.catalog k) (text_at (map text_of l.texts) k)

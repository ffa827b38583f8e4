use Rattle.vx_catalog_relations.proofs.TextFacts.{text_read, text_refused}
use Rattle.vx_catalog_relations.proofs.catalog.Catalog.read.Goals as goal

pub returns-in-Ok : goal.returns-in-Ok
returns-in-Ok c = rw (text_read _ _ c.in-Ok.ensures.ok.0 c.in-Ok.ensures.ok.1) c.of_value.ensures

pub returns-in_default : goal.returns-in_default
returns-in_default c = text_refused c.args.bytes.now (c.in-Err.ensures.err (λ m. c.in_default.not-Memory (c.classify.ensures.memory.1 m)))

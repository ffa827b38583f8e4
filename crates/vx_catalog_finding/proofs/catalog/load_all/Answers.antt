use Rattle.std.proofs.Common.{arith}
use Rattle.vx_catalog_finding.proofs.CatalogFacts.{not_loaded, loads_more}
use Rattle.vx_catalog_finding.proofs.catalog.load_all.Goals as goal

pub returns-in-Err-clause-refused : goal.returns-in-Err-clause-refused
returns-in-Err-clause-refused g c =
    not_loaded c.args.texts.now c.args.catalog.now c.loop-i.i c.index-texts-i.result c.in-Err.fault c.requires (omega arith) c.index-texts-i.is (rw c.as_slice.ensures.value at c.in-Err.ensures.refused)

pub loop-i-preserved : goal.loop-i-preserved
loop-i-preserved g c =
    loads_more c.args.texts.now c.args.catalog.now c.loop-i.i c.index-texts-i.result (omega arith) c.index-texts-i.is (rw c.as_slice.ensures.value at c.in-Ok.ensures.ok) c.loop-i.invariant

use Rattle.std.proofs.Common.{arith}
use Rattle.vx_catalog_finding.proofs.CatalogFacts.{not_found, found_more}
use Rattle.vx_catalog_finding.proofs.catalog.find_relations.Goals as goal

pub returns-in-Err-clause-refused : goal.returns-in-Err-clause-refused
returns-in-Err-clause-refused c =
    not_found c.args.texts.now c.loop-i.i c.index-texts-i.result c.in-Err.fault (omega arith) c.index-texts-i.is (rw c.as_slice.ensures.value at c.in-Err.ensures)

pub loop-i-preserved : goal.loop-i-preserved
loop-i-preserved c =
    rw c.in_ok-push-in-Ok.ensures.items
    (found_more c.args.texts.now c.loop-i.i c.index-texts-i.result c.loop-i.relations.items c.in-Ok.relation (omega arith) c.index-texts-i.is (rw c.as_slice.ensures.value at c.in-Ok.ensures) c.loop-i.invariant)

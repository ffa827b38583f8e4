use Rattle.std.proofs.Common.{arith}
use Rattle.vx_catalog_finding.proofs.LayoutFacts.{relation_more}
use Rattle.vx_catalog_finding.proofs.layout.relation_texts.Goals as goal

pub loop-relation-preserved : goal.loop-relation-preserved
loop-relation-preserved c =
    rw c.in_ok-push.ensures.items
    (relation_more c.loop-relation.texts.items c.in_ok-relation_text.field-0 c.args.relations.now c.loop-relation.relation-index c.relation-item.result (omega arith) c.relation-item.is c.in_ok-relation_text.ensures
    c.loop-relation.invariant)

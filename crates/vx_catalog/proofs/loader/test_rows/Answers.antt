use Rattle.vx_catalog.proofs.OrderFacts.{meets}
use Rattle.vx_catalog.proofs.loader.test_rows.Goals as goal

pub returns-clause-meets : goal.returns-clause-meets
returns-clause-meets c = meets c.args.relation.now c.args.rows.rows (rw c.requires.types at c.requires.fit) c.in_ok-test_keys.ensures (rw c.order.ensures at c.in_ok-test_order.ensures)

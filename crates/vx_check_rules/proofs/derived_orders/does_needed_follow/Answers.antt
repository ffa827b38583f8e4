use Rattle.std.proofs.Common.{◌∙◌, ℕ, ap, sym}
use Rattle.vx_catalog_relations.specs.Relation.{Relation}
use Rattle.vx_catalog_relations.specs.Catalog.{relation_at}
use Rattle.vx_plan_nodes.specs.Outline.{claim_of, binary_of, kind_of, plan_of}
use Rattle.vx_plan_nodes.specs.Plan.{Plan, Binary}
use Rattle.vx_check_rules.specs.Derived.{needed_follows}
use Rattle.vx_check_rules.proofs.NamedNodes.{joined-by, pairs-are, exchange-orders}
use Rattle.vx_check_rules.proofs.derived_orders.does_needed_follow.Goals as goal

pub do_pairs_follow-requires : goal.do_pairs_follow-requires
do_pairs_follow-requires c =
    let b = c.in-Binary in
    let h = joined-by c.requires.0 c.args.known.now (plan_of c.args.node.now) c.requires.1 b.field-0.number (claim_of b.field-0.claim) (binary_of b.operator) (plan_of b.left.value)
    (plan_of b.right.value) (ap plan_of b.is) in
    rw (c.deref.ensures, c.deref-in-Binary.ensures) (relation_at c.requires.0, h)

pub returns-in-Binary-clause-follows : goal.returns-in-Binary-clause-follows
returns-in-Binary-clause-follows c = λ catalog h.
    let b = c.in-Binary in
    let p : Plan = plan_of b.left.value in
    let q : Plan = plan_of b.right.value in
    let op : Binary = binary_of b.operator in
    let rel : ℕ → Relation = relation_at catalog in
    let joined = joined-by catalog c.args.known.now (plan_of c.args.node.now) h b.field-0.number (claim_of b.field-0.claim) op p q (ap plan_of b.is) in
    let told = (rw (c.deref.ensures, c.deref-in-Binary.ensures) at c.do_pairs_follow.ensures.follows) rel joined in
    told ∙ sym (pairs-are rel b.field-0.number (claim_of b.field-0.claim) op p q) ∙ sym (ap (needed_follows rel) (ap plan_of b.is))

pub returns-in-Binary-clause-kept : goal.returns-in-Binary-clause-kept
returns-in-Binary-clause-kept c = λ catalog h.
    let b = c.in-Binary in
    let joined = joined-by catalog c.args.known.now (plan_of c.args.node.now) h b.field-0.number (claim_of b.field-0.claim) (binary_of b.operator) (plan_of b.left.value)
    (plan_of b.right.value) (ap plan_of b.is) in
    (rw (c.deref.ensures, c.deref-in-Binary.ensures) at c.do_pairs_follow.ensures.kept) (relation_at catalog) joined

pub follows_claimed-requires : goal.follows_claimed-requires
follows_claimed-requires c =
    let b = c.in-Exchange in
    let orders = exchange-orders c.requires.0 c.args.known.now (plan_of c.args.node.now) c.requires.1 b.field-0.number (claim_of b.field-0.claim) (kind_of b.exchange.kind)
    b.exchange.merge.items (plan_of b.input.value) (ap plan_of b.is) in
    rw (c.deref-in-Exchange.ensures, c.as_slice.ensures.value) (relation_at c.requires.0, orders)

pub returns-in-Exchange-clause-follows : goal.returns-in-Exchange-clause-follows
returns-in-Exchange-clause-follows c = λ catalog h.
    let b = c.in-Exchange in
    let x : Plan = plan_of c.args.node.now in
    let rel : ℕ → Relation = relation_at catalog in
    let orders = exchange-orders catalog c.args.known.now x h b.field-0.number (claim_of b.field-0.claim) (kind_of b.exchange.kind) b.exchange.merge.items
    (plan_of b.input.value) (ap plan_of b.is) in
    let told = (rw (c.deref-in-Exchange.ensures, c.as_slice.ensures.value) at c.follows_claimed.ensures.follows) rel orders in
    told ∙ sym (ap (needed_follows rel) (ap plan_of b.is))

pub returns-in-Exchange-clause-kept : goal.returns-in-Exchange-clause-kept
returns-in-Exchange-clause-kept c = λ catalog h.
    let b = c.in-Exchange in
    let orders = exchange-orders catalog c.args.known.now (plan_of c.args.node.now) h b.field-0.number (claim_of b.field-0.claim) (kind_of b.exchange.kind) b.exchange.merge.items
    (plan_of b.input.value) (ap plan_of b.is) in
    (rw c.deref-in-Exchange.ensures at c.follows_claimed.ensures.kept) (relation_at catalog) orders.known

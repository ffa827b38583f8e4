use Rattle.std.proofs.Common.{◌≡◌, ◌∙◌, ◌||◌, ◌&&◌, ℕ, Bool, List, ap, sym}
use Rattle.vx_rows_values.specs.declared.order.OrderEntry.{OrderEntry}
use Rattle.vx_catalog_relations.specs.Relation.{Relation}
use Rattle.vx_catalog_relations.specs.Catalog.{relation_at}
use Rattle.vx_plan_nodes.specs.DescribeView.{copying_of, order_after_of}
use Rattle.vx_plan_nodes.specs.Describe.{Copying, OrderAfter, described}
use Rattle.vx_plan_nodes.specs.Outline.{claim_of, size_of, unary_of, binary_of, kind_of, plan_of}
use Rattle.vx_plan_nodes.specs.Plan.{Plan, Unary, Binary, claim, size, is_one, scan, unary, binary, exchange}
use Rattle.vx_plan_nodes.specs.Types.{width}
use Rattle.vx_plan_facts.specs.Determined.{determined}
use Rattle.vx_plan_facts.specs.Equal.{equal_at}
use Rattle.vx_plan_facts.proofs.NamedColumns.{typed-scan}
use Rattle.vx_check_rules.specs.Derived.{follows_at, goes_on_derived, binary_order, order_derived}
use Rattle.vx_check_rules.specs.KnownNode.{order_by}
use Rattle.vx_check_rules.proofs.NamedNodes.{still-typed}
use Rattle.vx_check_rules.proofs.ShownNodes.{unary-order-by, unary-input, both-orders, scan-orders, passed-by, merge-orders}
use Rattle.vx_check_rules.proofs.shown_orders.is_order_derived.Goals as goal

pub get-relation-requires : goal.get-relation-requires
get-relation-requires c =
    let b = c.in-Scan in
    typed-scan c.args.catalog.now (plan_of c.args.node.now) b.field-0.number (claim_of b.field-0.claim) b.scan.relation b.scan.shared (size_of b.scan.size) (ap plan_of b.is) c.requires.typed

pub follows_from-requires : goal.follows_from-requires
follows_from-requires c =
    let b = c.in-Scan in
    let orders = scan-orders c.args.catalog.now c.args.known.now (plan_of c.args.node.now) c.requires b.field-0.number (claim_of b.field-0.claim) b.scan.relation b.scan.shared (size_of b.scan.size)
    (ap plan_of b.is) c.get-relation.result.now c.get-relation.ensures.fine c.get-relation.ensures.value in
    rw c.order.ensures (relation_at c.args.catalog.now, orders)

pub returns-in-Scan-clause-derived : goal.returns-in-Scan-clause-derived
returns-in-Scan-clause-derived c =
    let b = c.in-Scan in
    let rel : ℕ → Relation = relation_at c.args.catalog.now in
    let x : Plan = plan_of c.args.node.now in
    let order : List OrderEntry = (claim x).order in
    let is : x ≡ scan b.field-0.number (claim_of b.field-0.claim) b.scan.relation b.scan.shared (size_of b.scan.size) = ap plan_of b.is in
    let orders = scan-orders c.args.catalog.now c.args.known.now x c.requires b.field-0.number (claim_of b.field-0.claim) b.scan.relation b.scan.shared (size_of b.scan.size) is
    c.get-relation.result.now c.get-relation.ensures.fine c.get-relation.ensures.value in
    let told = (rw c.order.ensures at c.follows_from.ensures.follows) rel orders in
    told ∙ ap (λ r. follows_at rel x r.order order) c.get-relation.ensures.value ∙ ap (λ z. follows_at rel z (rel b.scan.relation).order order) is
    ∙ sym (ap (λ z. order_derived rel z order) is)

pub follows_after-requires : goal.follows_after-requires
follows_after-requires c =
    let b = c.in-Unary in
    let input = unary-input c.args.catalog.now c.args.known.now (plan_of c.args.node.now) c.requires b.field-0.number (claim_of b.field-0.claim) (unary_of b.operator) (plan_of b.input.value)
    (ap plan_of b.is) (copying_of c.described.result.copying) (order_after_of c.described.result.order) (ap (λ d. d.copying) c.described.ensures) (ap (λ d. d.order) c.described.ensures) in
    rw c.deref.ensures (relation_at c.args.catalog.now, input)

pub returns-in-Unary-clause-derived : goal.returns-in-Unary-clause-derived
returns-in-Unary-clause-derived c =
    let b = c.in-Unary in
    let rel : ℕ → Relation = relation_at c.args.catalog.now in
    let x : Plan = plan_of c.args.node.now in
    let p : Plan = plan_of b.input.value in
    let op : Unary = unary_of b.operator in
    let y : Plan = unary b.field-0.number (claim_of b.field-0.claim) op p in
    let order : List OrderEntry = (claim x).order in
    let is : x ≡ y = ap plan_of b.is in
    let copying : Copying = copying_of c.described.result.copying in
    let after : OrderAfter = order_after_of c.described.result.order in
    let k : copying ≡ (described op).copying = ap (λ d. d.copying) c.described.ensures in
    let a : after ≡ (described op).order = ap (λ d. d.order) c.described.ensures in
    let input = unary-input c.args.catalog.now c.args.known.now x c.requires b.field-0.number (claim_of b.field-0.claim) op p is copying after k a in
    let told = (rw c.deref.ensures at c.follows_after.ensures.follows) rel input in
    told ∙ ap (λ z. follows_at rel z (order_by (width rel z) copying after (equal_at rel p) (determined rel p) (claim p).order) order) is
    ∙ ap (λ m. follows_at rel y (order_by (width rel y) m after (equal_at rel p) (determined rel p) (claim p).order) order) k
    ∙ ap (λ m. follows_at rel y (order_by (width rel y) (described op).copying m (equal_at rel p) (determined rel p) (claim p).order) order) a
    ∙ ap (λ xs. follows_at rel y xs order) (sym (unary-order-by (width rel y) op (equal_at rel p) (determined rel p) (claim p).order))
    ∙ sym (ap (λ z. order_derived rel z order) is)

pub returns-in-Unary-clause-kept : goal.returns-in-Unary-clause-kept
returns-in-Unary-clause-kept c = λ relations typed.
    let b = c.in-Unary in
    let input = unary-input relations c.args.known.now (plan_of c.args.node.now) typed b.field-0.number (claim_of b.field-0.claim) (unary_of b.operator) (plan_of b.input.value)
    (ap plan_of b.is) (copying_of c.described.result.copying) (order_after_of c.described.result.order) (ap (λ d. d.copying) c.described.ensures) (ap (λ d. d.order) c.described.ensures) in
    (rw c.deref.ensures at c.follows_after.ensures.kept) (relation_at relations) input

pub follows_from-requires-in-Binary : goal.follows_from-requires-in-Binary
follows_from-requires-in-Binary c =
    let b = c.in-Binary in
    let p : Plan = plan_of b.left.value in
    let op : Binary = binary_of b.operator in
    let given = c.order_over-given.ensures ∙ ap (binary_order op) (rw c.deref-in-Binary.ensures at c.claimed_order.ensures) in
    let orders = both-orders c.args.catalog.now c.args.known.now (plan_of c.args.node.now) c.requires b.field-0.number (claim_of b.field-0.claim) op p (plan_of b.field-3.value) (ap plan_of b.is) in
    rw given (relation_at c.args.catalog.now, orders)

pub returns-in-Binary-clause-derived : goal.returns-in-Binary-clause-derived
returns-in-Binary-clause-derived c =
    let b = c.in-Binary in
    let rel : ℕ → Relation = relation_at c.args.catalog.now in
    let x : Plan = plan_of c.args.node.now in
    let order : List OrderEntry = (claim x).order in
    let p : Plan = plan_of b.left.value in
    let op : Binary = binary_of b.operator in
    let y : Plan = binary b.field-0.number (claim_of b.field-0.claim) op p (plan_of b.field-3.value) in
    let is : x ≡ y = ap plan_of b.is in
    let given = c.order_over-given.ensures ∙ ap (binary_order op) (rw c.deref-in-Binary.ensures at c.claimed_order.ensures) in
    let orders = both-orders c.args.catalog.now c.args.known.now x c.requires b.field-0.number (claim_of b.field-0.claim) op p (plan_of b.field-3.value) is in
    let told = (rw given at c.follows_from-in-Binary.ensures.follows) rel orders in
    told ∙ ap (λ z. follows_at rel z (binary_order op (claim p).order) order) is ∙ sym (ap (λ z. order_derived rel z order) is)

pub follows_from-requires-in-Exchange : goal.follows_from-requires-in-Exchange
follows_from-requires-in-Exchange c =
    let b = c.in-Exchange in
    let orders = merge-orders c.args.catalog.now c.args.known.now (plan_of c.args.node.now) c.requires b.field-0.number (claim_of b.field-0.claim) (kind_of b.exchange.kind) b.exchange.merge.items
    (plan_of b.input.value) (ap plan_of b.is) in
    rw c.as_slice.ensures.value (relation_at c.args.catalog.now, orders)

pub returns-then-follows_from-clause-derived : goal.returns-then-follows_from-clause-derived
returns-then-follows_from-clause-derived c =
    let b = c.in-Exchange in
    let rel : ℕ → Relation = relation_at c.args.catalog.now in
    let x : Plan = plan_of c.args.node.now in
    let order : List OrderEntry = (claim x).order in
    let p : Plan = plan_of b.input.value in
    let m : List OrderEntry = b.exchange.merge.items in
    let going : Bool = is_one (size p) || goes_on_derived rel (kind_of b.exchange.kind) p in
    let y : Plan = exchange b.field-0.number (claim_of b.field-0.claim) (kind_of b.exchange.kind) m p in
    let is : x ≡ y = ap plan_of b.is in
    let orders = merge-orders c.args.catalog.now c.args.known.now x c.requires b.field-0.number (claim_of b.field-0.claim) (kind_of b.exchange.kind) m p is in
    let told = (rw c.as_slice.ensures.value at c.follows_from-in-Exchange.ensures.follows) rel orders in
    sym (ap (λ z. order_derived rel z order) is ∙ ap (λ z. follows_at rel z m order || (going && follows_at rel z (claim p).order order)) (sym is)
    ∙ ap (λ v. v || (going && follows_at rel x (claim p).order order)) (sym told ∙ c.if-follows_from.true))

pub follows_passed-requires : goal.follows_passed-requires
follows_passed-requires c =
    let b = c.in-Exchange in
    let rel : ℕ → Relation = relation_at c.args.catalog.now in
    let x : Plan = plan_of c.args.node.now in
    let later = still-typed c.args.catalog.now c.args.known.now c.follows_from-in-Exchange.new.known x x c.follows_from-in-Exchange.ensures.kept c.requires.known c.requires in
    let passed = passed-by c.args.catalog.now c.follows_from-in-Exchange.new.known x later b.field-0.number (claim_of b.field-0.claim) (kind_of b.exchange.kind) b.exchange.merge.items
    (plan_of b.input.value) (ap plan_of b.is) in
    rw c.deref-in-Exchange.ensures (rel, passed)

pub returns-else-follows_from-clause-derived : goal.returns-else-follows_from-clause-derived
returns-else-follows_from-clause-derived c =
    let b = c.in-Exchange in
    let rel : ℕ → Relation = relation_at c.args.catalog.now in
    let x : Plan = plan_of c.args.node.now in
    let order : List OrderEntry = (claim x).order in
    let p : Plan = plan_of b.input.value in
    let m : List OrderEntry = b.exchange.merge.items in
    let going : Bool = is_one (size p) || goes_on_derived rel (kind_of b.exchange.kind) p in
    let y : Plan = exchange b.field-0.number (claim_of b.field-0.claim) (kind_of b.exchange.kind) m p in
    let is : x ≡ y = ap plan_of b.is in
    let orders = merge-orders c.args.catalog.now c.args.known.now x c.requires b.field-0.number (claim_of b.field-0.claim) (kind_of b.exchange.kind) m p is in
    let told = (rw c.as_slice.ensures.value at c.follows_from-in-Exchange.ensures.follows) rel orders in
    let later = still-typed c.args.catalog.now c.args.known.now c.follows_from-in-Exchange.new.known x x c.follows_from-in-Exchange.ensures.kept c.requires.known c.requires in
    let passed = passed-by c.args.catalog.now c.follows_from-in-Exchange.new.known x later b.field-0.number (claim_of b.field-0.claim) (kind_of b.exchange.kind) m p is in
    let last = (rw c.deref-in-Exchange.ensures at c.follows_passed.ensures.follows) rel passed in
    sym (ap (λ z. order_derived rel z order) is ∙ ap (λ z. follows_at rel z m order || (going && follows_at rel z (claim p).order order)) (sym is)
    ∙ ap (λ v. v || (going && follows_at rel x (claim p).order order)) (sym told ∙ c.if-follows_from.false) ∙ sym last)

pub returns-else-follows_from-clause-kept : goal.returns-else-follows_from-clause-kept
returns-else-follows_from-clause-kept c = λ relations typed q known.
    let b = c.in-Exchange in
    let x : Plan = plan_of c.args.node.now in
    let first = c.follows_from-in-Exchange.ensures.kept (relation_at relations) typed.known in
    let later = still-typed relations c.args.known.now c.follows_from-in-Exchange.new.known x x c.follows_from-in-Exchange.ensures.kept typed.known typed in
    let passed = passed-by relations c.follows_from-in-Exchange.new.known x later b.field-0.number (claim_of b.field-0.claim) (kind_of b.exchange.kind) b.exchange.merge.items
    (plan_of b.input.value) (ap plan_of b.is) in
    (rw c.deref-in-Exchange.ensures at c.follows_passed.ensures.kept) (relation_at relations) passed q (first q known)

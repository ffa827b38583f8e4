use Rattle.std.proofs.Common.{◌≡◌, ◌∙◌, ◌||◌, ℕ, Bool, List, cond, ap, sym, subst}
use Rattle.std.specs.Prelude.{IfOk}
use Rattle.vx_rows_values.specs.declared.order.OrderEntry.{OrderEntry}
use Rattle.vx_catalog_relations.specs.Relation.{Relation}
use Rattle.vx_catalog_relations.specs.Catalog.{relation_at}
use Rattle.vx_plan_nodes.specs.DescribeView.{copying_of, order_after_of}
use Rattle.vx_plan_nodes.specs.Describe.{Copying, OrderAfter, described}
use Rattle.vx_plan_nodes.specs.Outline.{claim_of, part_of, unary_of, binary_of, kind_of, plan_of}
use Rattle.vx_plan_nodes.specs.Plan.{Plan, Part, Unary, Binary, size, is_one, unary, binary, exchange}
use Rattle.vx_plan_nodes.specs.Types.{width}
use Rattle.vx_plan_facts.specs.Determined.{determined}
use Rattle.vx_plan_facts.specs.Equal.{equal_at}
use Rattle.vx_check_rules.specs.Derived.{goes_on_with, binary_order}
use Rattle.vx_check_rules.specs.KnownNode.{order_by}
use Rattle.vx_check_rules.proofs.ShownNodes.{unary-order-by, unary-input}
use Rattle.vx_check_shown.specs.ShownOrder.{shortened, shown_order}
use Rattle.vx_check_shown.proofs.OrderNodes.{order-over, orders-over-both, given-passed, orders-passed}
use Rattle.vx_check_shown.proofs.orders.shown_order.Goals as goal

pub shown_over-requires : goal.shown_over-requires
shown_over-requires c =
    let b = c.in-Unary in
    let input = order-over c.args.catalog.now c.args.known.now (plan_of c.args.node.now) c.requires.known b.field-0.number (claim_of b.field-0.claim) (unary_of b.operator) (plan_of b.input.value)
    (ap plan_of b.is) (copying_of c.described.result.copying) (order_after_of c.described.result.order) (ap (λ d. d.copying) c.described.ensures) (ap (λ d. d.order) c.described.ensures)
    (part_of c.args.part.now) c.args.below.now c.requires.input in
    rw c.deref.ensures (relation_at c.args.catalog.now, input)

pub returns-in-Unary-clause-shown : goal.returns-in-Unary-clause-shown
returns-in-Unary-clause-shown c =
    let b = c.in-Unary in
    let rel : ℕ → Relation = relation_at c.args.catalog.now in
    let x : Plan = plan_of c.args.node.now in
    let p : Plan = plan_of b.input.value in
    let op : Unary = unary_of b.operator in
    let y : Plan = unary b.field-0.number (claim_of b.field-0.claim) op p in
    let q : Part = part_of c.args.part.now in
    let below : List OrderEntry = c.args.below.now in
    let is : x ≡ y = ap plan_of b.is in
    let copying : Copying = copying_of c.described.result.copying in
    let after : OrderAfter = order_after_of c.described.result.order in
    let k : copying ≡ (described op).copying = ap (λ d. d.copying) c.described.ensures in
    let a : after ≡ (described op).order = ap (λ d. d.order) c.described.ensures in
    let input = order-over c.args.catalog.now c.args.known.now x c.requires.known b.field-0.number (claim_of b.field-0.claim) op p is copying after k a q below c.requires.input in
    let told = (rw c.deref.ensures at c.shown_over.ensures.shown) rel input in
    let same = ap (λ z. shortened rel z (order_by (width rel z) copying after (equal_at rel p) (determined rel p) below)) is
    ∙ ap (λ m. shortened rel y (order_by (width rel y) m after (equal_at rel p) (determined rel p) below)) k
    ∙ ap (λ m. shortened rel y (order_by (width rel y) (described op).copying m (equal_at rel p) (determined rel p) below)) a
    ∙ ap (shortened rel y) (sym (unary-order-by (width rel y) op (equal_at rel p) (determined rel p) below))
    ∙ sym (ap (λ z. shown_order rel z q below) is) in
    let P : List OrderEntry → Type 0 = λ xs. IfOk c.shown_over.result (λ v. v.items ≡ xs) in
    subst P same told

pub returns-in-Unary-clause-kept : goal.returns-in-Unary-clause-kept
returns-in-Unary-clause-kept c = λ relations typed.
    let b = c.in-Unary in
    let input = unary-input relations c.args.known.now (plan_of c.args.node.now) typed b.field-0.number (claim_of b.field-0.claim) (unary_of b.operator) (plan_of b.input.value)
    (ap plan_of b.is) (copying_of c.described.result.copying) (order_after_of c.described.result.order) (ap (λ d. d.copying) c.described.ensures) (ap (λ d. d.order) c.described.ensures) in
    (rw c.deref.ensures at c.shown_over.ensures.kept) (relation_at relations) input.input

pub shortened-requires-in-Binary : goal.shortened-requires-in-Binary
shortened-requires-in-Binary c =
    let b = c.in-Binary in
    let orders = orders-over-both c.args.catalog.now c.args.known.now (plan_of c.args.node.now) c.requires.known b.field-0.number (claim_of b.field-0.claim) (binary_of b.operator)
    (plan_of b.field-2.value) (plan_of b.field-3.value) (ap plan_of b.is) (part_of c.args.part.now) c.args.below.now c.requires.input in
    rw c.order_over.ensures (relation_at c.args.catalog.now, orders)

pub returns-in-Binary-clause-shown : goal.returns-in-Binary-clause-shown
returns-in-Binary-clause-shown c =
    let b = c.in-Binary in
    let rel : ℕ → Relation = relation_at c.args.catalog.now in
    let x : Plan = plan_of c.args.node.now in
    let op : Binary = binary_of b.operator in
    let y : Plan = binary b.field-0.number (claim_of b.field-0.claim) op (plan_of b.field-2.value) (plan_of b.field-3.value) in
    let q : Part = part_of c.args.part.now in
    let below : List OrderEntry = c.args.below.now in
    let is : x ≡ y = ap plan_of b.is in
    let orders = orders-over-both c.args.catalog.now c.args.known.now x c.requires.known b.field-0.number (claim_of b.field-0.claim) op
    (plan_of b.field-2.value) (plan_of b.field-3.value) is q below c.requires.input in
    let told = (rw c.order_over.ensures at c.shortened-in-Binary.ensures.shortened) rel orders in
    let P : List OrderEntry → Type 0 = λ xs. IfOk c.shortened-in-Binary.result (λ v. v.items ≡ xs) in
    subst P (ap (λ z. shortened rel z (binary_order op below)) is ∙ sym (ap (λ z. shown_order rel z q below) is)) told

pub shortened-requires-in-Exchange : goal.shortened-requires-in-Exchange
shortened-requires-in-Exchange c =
    let b = c.in-Exchange in
    let rel : ℕ → Relation = relation_at c.args.catalog.now in
    let x : Plan = plan_of c.args.node.now in
    let p : Plan = plan_of b.input.value in
    let q : Part = part_of c.args.part.now in
    let below : List OrderEntry = c.args.below.now in
    let given = given-passed c.args.catalog.now c.args.known.now x c.requires.known b.field-0.number (claim_of b.field-0.claim) (kind_of b.exchange.kind) b.exchange.merge.items p
    (ap plan_of b.is) q below c.requires.input in
    let passed = (rw c.deref-in-Exchange.ensures at c.order_passed-given.ensures.passed) rel given in
    let kept = (rw c.deref-in-Exchange.ensures at c.order_passed-given.ensures.kept) rel given.known x c.requires.known.known in
    let going : Bool = is_one (size p) || goes_on_with rel (kind_of b.exchange.kind) p q below in
    let orders = orders-passed c.args.catalog.now c.args.known.now x c.requires.known b.field-0.number (claim_of b.field-0.claim) (kind_of b.exchange.kind) b.exchange.merge.items p
    (ap plan_of b.is) q below c.requires.input going c.order_passed-given.new.known kept in
    rw passed (rel, orders)

pub returns-in-Exchange-clause-shown : goal.returns-in-Exchange-clause-shown
returns-in-Exchange-clause-shown c =
    let b = c.in-Exchange in
    let rel : ℕ → Relation = relation_at c.args.catalog.now in
    let x : Plan = plan_of c.args.node.now in
    let p : Plan = plan_of b.input.value in
    let q : Part = part_of c.args.part.now in
    let below : List OrderEntry = c.args.below.now in
    let merge : List OrderEntry = b.exchange.merge.items in
    let is : x ≡ exchange b.field-0.number (claim_of b.field-0.claim) (kind_of b.exchange.kind) merge p = ap plan_of b.is in
    let given = given-passed c.args.catalog.now c.args.known.now x c.requires.known b.field-0.number (claim_of b.field-0.claim) (kind_of b.exchange.kind) merge p is q below c.requires.input in
    let passed = (rw c.deref-in-Exchange.ensures at c.order_passed-given.ensures.passed) rel given in
    let kept = (rw c.deref-in-Exchange.ensures at c.order_passed-given.ensures.kept) rel given.known x c.requires.known.known in
    let going : Bool = is_one (size p) || goes_on_with rel (kind_of b.exchange.kind) p q below in
    let orders = orders-passed c.args.catalog.now c.args.known.now x c.requires.known b.field-0.number (claim_of b.field-0.claim) (kind_of b.exchange.kind) merge p is q below c.requires.input
    going c.order_passed-given.new.known kept in
    let told = (rw passed at c.shortened-in-Exchange.ensures.shortened) rel orders in
    let P : List OrderEntry → Type 0 = λ xs. IfOk c.shortened-in-Exchange.result (λ v. v.items ≡ xs) in
    subst P (sym (ap (λ z. shown_order rel z q below) is ∙ ap (λ z. shortened rel z (cond going below merge)) (sym is))) told

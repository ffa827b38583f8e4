use Rattle.std.proofs.Common.{◌≡◌, ◌∙◌, List, [], true, ap, sym, subst}
use Rattle.vx_rows_values.specs.declared.order.OrderEntry.{OrderEntry}
use Rattle.vx_rows_values.specs.Order.{order_columns}
use Rattle.vx_catalog_relations.specs.Catalog.{all_below}
use Rattle.vx_plan_nodes.specs.DescribeView.{copying_of}
use Rattle.vx_plan_nodes.specs.Outline.{plan_of}
use Rattle.vx_plan_nodes.specs.Types.{width}
use Rattle.vx_plan_facts.specs.Determined.{determined}
use Rattle.vx_plan_facts.specs.Equal.{equal_at}
use Rattle.vx_plan_facts.specs.Following.{short}
use Rattle.vx_check_rules.specs.Derived.{front_copies}
use Rattle.vx_check_rules.proofs.NamedNodes.{same-orders}
use Rattle.vx_check_rules.proofs.OrderSteps.{short-below}
use Rattle.vx_check_rules.proofs.carried_orders.carried_order.Goals as goal

pub short-below-requires : goal.short-below-requires
short-below-requires c =
    let catalog = c.requires.0 in
    (catalog, same-orders catalog c.args.known.now (plan_of c.args.input.now) c.requires.1.known c.args.order.now c.requires.2)

pub front_copies-requires-clause-copies : goal.front_copies-requires-clause-copies
front_copies-requires-clause-copies c =
    let catalog = c.requires.0 in
    let h = c.requires.1 in
    let p = plan_of c.args.input.now in
    let k = c.args.known.now in
    let det = determined catalog p in
    let order = c.args.order.now in
    let made = c.short-below.ensures.short catalog (same-orders catalog k p h.known order c.requires.2) in
    let list : c.as_slice.result.now ≡ short det order = c.as_slice.ensures.value ∙ made in
    let P : List OrderEntry → Type 0 = λ xs. all_below (width catalog p) (order_columns xs) ≡ true in (
      catalog,
      record { known = c.short-below.ensures.kept catalog h.known p h.known; reaches = h.reaches },
      subst P (sym list) (short-below (width catalog p) det [] order c.requires.2),
    )

pub returns-clause-carried : goal.returns-clause-carried
returns-clause-carried c = λ catalog h below.
    let p = plan_of c.args.input.now in
    let k = c.args.known.now in
    let det = determined catalog p in
    let order = c.args.order.now in
    let made = c.short-below.ensures.short catalog (same-orders catalog k p h.known order below) in
    let list : c.as_slice.result.now ≡ short det order = c.as_slice.ensures.value ∙ made in
    let P : List OrderEntry → Type 0 = λ xs. all_below (width catalog p) (order_columns xs) ≡ true in
    c.front_copies.ensures catalog (record { known = c.short-below.ensures.kept catalog h.known p h.known; reaches = h.reaches })
    (subst P (sym list) (short-below (width catalog p) det [] order below))
    ∙ ap (front_copies c.args.outputs (copying_of c.args.copying) (equal_at catalog p)) list

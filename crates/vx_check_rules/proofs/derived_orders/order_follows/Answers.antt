use Rattle.std.proofs.Common.{◌≡◌, ◌<◌, ◌∙◌, Some, slice_get, ap, sym, arith}
use Rattle.vx_plan_nodes.specs.Outline.{plan_of}
use Rattle.vx_plan_nodes.specs.Types.{width}
use Rattle.vx_plan_facts.specs.ColumnSetView.{set_of_columns}
use Rattle.vx_check_rules.specs.Seen.{order_seen}
use Rattle.vx_check_rules.proofs.OrderSteps.{entry-at, walking-starts, walking-passes, walking-fails, walking-goes, walking-ends}
use Rattle.vx_check_rules.proofs.derived_orders.order_follows.Goals as goal

pub loop-place-init : goal.loop-place-init
loop-place-init c = record {
  near = omega arith;
  kept = c.determined-found.ensures.kept;
  walking = λ catalog orders.
      walking-starts catalog c.args.known.now (plan_of c.args.node.now) (order_seen c.args.given) (order_seen c.args.order) orders _ _ c.new-passed.ensures
      (c.determined-found.ensures.answer catalog orders.known);
}

pub loop-place-preserved-then-contains : goal.loop-place-preserved-then-contains
loop-place-preserved-then-contains c = record {
  near = c.loop-place.invariant.near;
  kept = c.loop-place.invariant.kept;
  walking = λ catalog orders.
      walking-passes catalog c.args.known.now (plan_of c.args.node.now) (order_seen c.args.given) (order_seen c.args.order) orders c.loop-place.place c.loop-place.next
      (set_of_columns c.loop-place.passed) (set_of_columns c.loop-place.found) (c.loop-place.invariant.walking catalog orders) c.at-entry.result c.at-entry.ensures
      (sym c.contains.ensures ∙ c.if-contains.true);
}

pub goes_on-requires : goal.goes_on-requires
goes_on-requires c =
    let p = plan_of c.args.node.now in
    let catalog = c.requires.0 in
    let orders = c.requires.1 in (
      catalog,
      c.loop-place.invariant.kept catalog orders.known p orders.known,
      orders.given_below,
      entry-at (width catalog p) (order_seen c.args.order) c.loop-place.place c.at-entry.result orders.order_below c.at-entry.ensures,
    )

pub returns-then-not-goes_on-clause-follows : goal.returns-then-not-goes_on-clause-follows
returns-then-not-goes_on-clause-follows c = λ catalog orders.
    let p = plan_of c.args.node.now in
    let given = order_seen c.args.given in
    let order = order_seen c.args.order in
    let i = c.loop-place.place in
    let entry = c.at-entry.result in
    let found = set_of_columns c.loop-place.found in
    let is = sym c.contains.ensures ∙ c.if-contains.false in
    let below = entry-at (width catalog p) order i entry orders.order_below c.at-entry.ensures in
    let known = c.loop-place.invariant.kept catalog orders.known p orders.known in
    let test = c.goes_on.ensures catalog known orders.given_below below in
    sym (walking-fails catalog c.args.known.now p given order orders i c.loop-place.next (set_of_columns c.loop-place.passed) found
    (c.loop-place.invariant.walking catalog orders) entry c.at-entry.ensures is c.first_left-next.result c.first_left-next.ensures.past (sym test ∙ c.if-not-goes_on.true))

pub loop-place-preserved : goal.loop-place-preserved
loop-place-preserved c = record {
  near = c.first_left-next.ensures.within;
  kept = λ catalog here q known.
      c.determined-found-in-loop-place.ensures.kept catalog (c.loop-place.invariant.kept catalog here (plan_of c.args.node.now) here) q
      (c.loop-place.invariant.kept catalog here q known);
  walking = λ catalog orders.
      let p = plan_of c.args.node.now in
      let given = order_seen c.args.given in
      let order = order_seen c.args.order in
      let i = c.loop-place.place in
      let entry = c.at-entry.result in
      let found = set_of_columns c.loop-place.found in
      let is = sym c.contains.ensures ∙ c.if-contains.false in
      let below = entry-at (width catalog p) order i entry orders.order_below c.at-entry.ensures in
      let known = c.loop-place.invariant.kept catalog orders.known p orders.known in
      let test = c.goes_on.ensures catalog known orders.given_below below in
      walking-goes catalog c.args.known.now p given order orders i c.loop-place.next (set_of_columns c.loop-place.passed) found
      (c.loop-place.invariant.walking catalog orders) entry c.at-entry.ensures is c.first_left-next.result c.first_left-next.ensures.past (sym test ∙ c.if-not-goes_on.false)
      (set_of_columns c.put.new.self) (set_of_columns c.determined-found-in-loop-place.result) c.put.ensures
      (c.determined-found-in-loop-place.ensures.answer catalog known);
}

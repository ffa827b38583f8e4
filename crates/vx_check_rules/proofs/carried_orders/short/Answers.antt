use Rattle.std.proofs.Common.{◌∙◌, sym, arith, subst, List, ◌+◌}
use Rattle.std.proofs.lemmas.Option.{slice_get-get_or}
use Rattle.vx_rows_values.specs.declared.order.OrderEntry.{OrderEntry}
use Rattle.vx_plan_nodes.specs.Outline.{plan_of}
use Rattle.vx_plan_facts.specs.ColumnSetView.{set_of_columns}
use Rattle.vx_check_rules.proofs.OrderSteps.{few-none, few-one, push-fits, Keeping, keeping-starts, keeping-passes, keeping-goes, keeping-ends}
use Rattle.vx_check_rules.proofs.carried_orders.short.Goals as goal

pub loop-entry-init : goal.loop-entry-init
loop-entry-init c = record {
  few = few-none c.new-short.result.items (set_of_columns c.new-passed.result) c.new-short.ensures;
  kept = c.determined-found.ensures.kept;
  keeping = λ catalog orders.
      let p = plan_of c.args.node.now in
      let s = set_of_columns c.new-passed.result in
      let t = set_of_columns c.determined-found.result in
      let P : List OrderEntry → Type 0 = λ xs. Keeping catalog p c.args.order.now xs 0 s t in
      subst P (sym c.new-short.ensures)
      (keeping-starts catalog c.args.known.now p c.args.order.now orders s t c.new-passed.ensures (c.determined-found.ensures.answer catalog orders.known));
}

pub loop-entry-preserved-then-contains : goal.loop-entry-preserved-then-contains
loop-entry-preserved-then-contains c = record {
  few = c.loop-entry.invariant.few;
  kept = c.loop-entry.invariant.kept;
  keeping = λ catalog orders.
      keeping-passes catalog c.args.known.now (plan_of c.args.node.now) c.args.order.now orders c.loop-entry.short.items c.loop-entry.entry-index
      (set_of_columns c.loop-entry.passed) (set_of_columns c.loop-entry.found) (c.loop-entry.invariant.keeping catalog orders)
      _ (slice_get-get_or c.args.order.now c.loop-entry.entry-index _ c.loop-entry-test.true) (sym c.contains.ensures ∙ c.if-contains.true);
}

pub push-requires : goal.push-requires
push-requires c = (
  omega arith,
  push-fits c.requires.0 c.args.known.now (plan_of c.args.node.now) c.args.order.now c.loop-entry.short.items c.loop-entry.entry-index (set_of_columns c.loop-entry.passed)
      (set_of_columns c.loop-entry.found) c.requires.1 (c.loop-entry.invariant.keeping c.requires.0 c.requires.1)
      _ (slice_get-get_or c.args.order.now c.loop-entry.entry-index _ c.loop-entry-test.true) (sym c.contains.ensures ∙ c.if-contains.false) c.loop-entry.invariant.few,
)

pub loop-entry-preserved : goal.loop-entry-preserved
loop-entry-preserved c = record {
  few =
      few-one c.requires.0 c.args.known.now (plan_of c.args.node.now) c.args.order.now c.loop-entry.short.items c.loop-entry.entry-index (set_of_columns c.loop-entry.passed)
      (set_of_columns c.loop-entry.found) c.requires.1 (c.loop-entry.invariant.keeping c.requires.0 c.requires.1)
      _ (slice_get-get_or c.args.order.now c.loop-entry.entry-index _ c.loop-entry-test.true) (sym c.contains.ensures ∙ c.if-contains.false) c.loop-entry.invariant.few (set_of_columns c.put.new.self) c.put.ensures c.push.new.self.items c.push.ensures.items;
  kept = λ catalog here q known.
      c.determined-found-in-loop-entry.ensures.kept catalog (c.loop-entry.invariant.kept catalog here (plan_of c.args.node.now) here) q
      (c.loop-entry.invariant.kept catalog here q known);
  keeping = λ catalog orders.
      let p = plan_of c.args.node.now in
      let order = c.args.order.now in
      let i = c.loop-entry.entry-index in
      let s = set_of_columns c.put.new.self in
      let t = set_of_columns c.determined-found-in-loop-entry.result in
      let known = c.loop-entry.invariant.kept catalog orders.known p orders.known in
      let P : List OrderEntry → Type 0 = λ xs. Keeping catalog p order xs (i + 1) s t in
      subst P (sym c.push.ensures.items)
      (keeping-goes catalog c.args.known.now p order orders c.loop-entry.short.items i (set_of_columns c.loop-entry.passed) (set_of_columns c.loop-entry.found)
      (c.loop-entry.invariant.keeping catalog orders) _ (slice_get-get_or c.args.order.now c.loop-entry.entry-index _ c.loop-entry-test.true)
      (sym c.contains.ensures ∙ c.if-contains.false) s t c.put.ensures
      (c.determined-found-in-loop-entry.ensures.answer catalog known));
}

pub returns-clause-short : goal.returns-clause-short
returns-clause-short c = λ catalog orders.
    keeping-ends catalog c.args.known.now (plan_of c.args.node.now) c.args.order.now orders c.loop-entry.short.items c.loop-entry.entry-index (set_of_columns c.loop-entry.passed)
    (set_of_columns c.loop-entry.found) (c.loop-entry.invariant.keeping catalog orders) (omega (arith, c.loop-entry-test.false))

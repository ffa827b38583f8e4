use Rattle.std.proofs.Common.{◌∙◌, sym}
use Rattle.vx_plan_facts.specs.ColumnSetView.{set_of_columns}
use Rattle.vx_check_rules.specs.Seen.{order_seen}
use Rattle.vx_check_rules.proofs.OrderSteps.{past-in, past-out}
use Rattle.vx_check_rules.proofs.derived_orders.first_left.Goals as goal

pub returns-then-not-contains-clause-past : goal.returns-then-not-contains-clause-past
returns-then-not-contains-clause-past c =
    sym (c.loop-place.invariant ∙ past-out (set_of_columns c.args.set.now) (order_seen c.args.order) c.loop-place.place c.at.result c.at.ensures (sym c.contains.ensures ∙ c.if-not-contains.true))

pub loop-place-preserved : goal.loop-place-preserved
loop-place-preserved c =
    c.loop-place.invariant ∙ past-in (set_of_columns c.args.set.now) (order_seen c.args.order) c.loop-place.place c.at.result c.at.ensures (sym c.contains.ensures ∙ c.if-not-contains.false)

use Rattle.std.proofs.Common.{◌∙◌, ap, sym}
use Rattle.vx_plan_nodes.specs.DescribeView.{copying_of, order_after_of}
use Rattle.vx_plan_nodes.specs.Outline.{plan_of}
use Rattle.vx_plan_nodes.specs.Plan.{claim}
use Rattle.vx_plan_nodes.specs.Types.{width}
use Rattle.vx_plan_facts.specs.Determined.{determined}
use Rattle.vx_plan_facts.specs.Equal.{equal_at}
use Rattle.vx_check_rules.specs.Behaviour.{order_after}
use Rattle.vx_check_rules.specs.Derived.{follows_at}
use Rattle.vx_check_rules.proofs.ShownNodes.{whole-by, carried-by, whole-orders}
use Rattle.vx_check_rules.proofs.shown_orders.follows_after.Goals as goal

pub follows_from-requires : goal.follows_from-requires
follows_from-requires c =
    let after = order_after_of c.args.described.order in
    let whole = sym c.is_whole.ensures ∙ c.if-is_whole.true in
    let given = c.order_after-given.ensures ∙ ap (order_after after) c.claimed_order.ensures in (
      c.requires.0,
      whole-orders c.requires.0 c.args.known.now (plan_of c.args.node.now) (plan_of c.args.input.now) (copying_of c.args.described.copying) after c.requires.1 whole
          c.order_after-given.result.now given,
    )

pub returns-then-is_whole-clause-follows : goal.returns-then-is_whole-clause-follows
returns-then-is_whole-clause-follows c = λ catalog h.
    let p = plan_of c.args.node.now in
    let q = plan_of c.args.input.now in
    let copying = copying_of c.args.described.copying in
    let after = order_after_of c.args.described.order in
    let whole = sym c.is_whole.ensures ∙ c.if-is_whole.true in
    let given = c.order_after-given.ensures ∙ ap (order_after after) c.claimed_order.ensures in
    let orders = whole-orders catalog c.args.known.now p q copying after h whole c.order_after-given.result.now given in
    c.follows_from.ensures.follows catalog orders ∙ ap (λ xs. follows_at catalog p xs (claim p).order) given
    ∙ sym (ap (λ xs. follows_at catalog p xs (claim p).order) (whole-by copying whole (width catalog p) after (equal_at catalog q) (determined catalog q) (claim q).order))

pub returns-then-is_whole-clause-kept : goal.returns-then-is_whole-clause-kept
returns-then-is_whole-clause-kept c = λ catalog h. c.follows_from.ensures.kept catalog h.input.known

pub follows_carried-requires : goal.follows_carried-requires
follows_carried-requires c = (c.requires.0, c.requires.1.input)

pub returns-clause-follows : goal.returns-clause-follows
returns-clause-follows c = λ catalog h.
    let p = plan_of c.args.node.now in
    let q = plan_of c.args.input.now in
    let copying = copying_of c.args.described.copying in
    let carried = sym c.is_whole.ensures ∙ c.if-is_whole.false in
    c.follows_carried.ensures.follows catalog h.input
    ∙ sym (ap (λ xs. follows_at catalog p xs (claim p).order)
    (carried-by copying carried (width catalog p) (order_after_of c.args.described.order) (equal_at catalog q) (determined catalog q) (claim q).order))

pub returns-clause-kept : goal.returns-clause-kept
returns-clause-kept c = λ catalog h. c.follows_carried.ensures.kept catalog h.input

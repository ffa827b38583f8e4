use Rattle.std.proofs.Common.{◌∙◌, ◌&&◌, ◌||◌, Bool, ap, ap₂, sym}
use Rattle.vx_plan_nodes.specs.Outline.{kind_of, part_of, plan_of}
use Rattle.vx_plan_nodes.specs.Plan.{claim, size, is_one}
use Rattle.vx_check_rules.specs.Derived.{follows_at, goes_on_with}
use Rattle.vx_check_rules.specs.KnownNode.{IsPassed}
use Rattle.vx_check_rules.proofs.NamedNodes.{given-own}
use Rattle.vx_check_rules.proofs.ShownNodes.{passed-orders}
use Rattle.vx_check_rules.proofs.shown_orders.follows_passed.Goals as goal

pub keeps_order-requires : goal.keeps_order-requires
keeps_order-requires c = (
  c.requires.0,
  given-own c.requires.0 c.args.known.now (plan_of c.args.input.now) c.requires.1.input (part_of c.claimed_part.result.now) c.claimed_order-order.result.now
      c.claimed_part.ensures c.claimed_order-order.ensures,
)

pub returns-then-not-keeps_order-clause-follows : goal.returns-then-not-keeps_order-clause-follows
returns-then-not-keeps_order-clause-follows c = λ catalog h.
    let p = plan_of c.args.node.now in
    let q = plan_of c.args.input.now in
    let part = part_of c.claimed_part.result.now in
    let order = c.claimed_order-order.result.now in
    let given = given-own catalog c.args.known.now q h.input part order c.claimed_part.ensures c.claimed_order-order.ensures in
    let keeps = c.keeps_order.ensures.keeps catalog given
    ∙ ap₂ (λ x xs. is_one (size q) || goes_on_with catalog (kind_of c.args.kind.now) q x xs) c.claimed_part.ensures c.claimed_order-order.ensures in
    let rest : Bool = follows_at catalog p (claim q).order (claim p).order in
    sym (ap (λ b. b && rest) (sym keeps ∙ c.if-not-keeps_order.true))

pub returns-then-not-keeps_order-clause-kept : goal.returns-then-not-keeps_order-clause-kept
returns-then-not-keeps_order-clause-kept c = λ catalog h. c.keeps_order.ensures.kept catalog h.input

pub follows_from-requires : goal.follows_from-requires
follows_from-requires c =
    let catalog = c.requires.0 in
    let p = plan_of c.args.node.now in
    let q = plan_of c.args.input.now in
    let h = c.requires.1 in
    let first = c.keeps_order.ensures.kept catalog h.input in
    let later : IsPassed catalog c.keeps_order.new.known p q = record { known = first p h.known; input = first q h.input; wide = h.wide } in
    rw c.claimed_order-order.ensures (catalog, passed-orders catalog c.keeps_order.new.known p q later)

pub returns-clause-follows : goal.returns-clause-follows
returns-clause-follows c = λ catalog h.
    let p = plan_of c.args.node.now in
    let q = plan_of c.args.input.now in
    let part = part_of c.claimed_part.result.now in
    let order = c.claimed_order-order.result.now in
    let given = given-own catalog c.args.known.now q h.input part order c.claimed_part.ensures c.claimed_order-order.ensures in
    let keeps = c.keeps_order.ensures.keeps catalog given
    ∙ ap₂ (λ x xs. is_one (size q) || goes_on_with catalog (kind_of c.args.kind.now) q x xs) c.claimed_part.ensures c.claimed_order-order.ensures in
    let rest : Bool = follows_at catalog p (claim q).order (claim p).order in
    let first = c.keeps_order.ensures.kept catalog h.input in
    let later : IsPassed catalog c.keeps_order.new.known p q = record { known = first p h.known; input = first q h.input; wide = h.wide } in
    let told = (rw c.claimed_order-order.ensures at c.follows_from.ensures.follows) catalog (passed-orders catalog c.keeps_order.new.known p q later) in
    told ∙ sym (ap (λ b. b && rest) (sym keeps ∙ c.if-not-keeps_order.false))

pub returns-clause-kept : goal.returns-clause-kept
returns-clause-kept c = λ catalog h q known.
    let first = c.keeps_order.ensures.kept catalog h.input in
    c.follows_from.ensures.kept catalog (first (plan_of c.args.node.now) h.known) q (first q known)

use Rattle.std.proofs.Common.{ℕ, List, sym, subst}
use Rattle.std.specs.List.{Contains}
use Rattle.vx_exchange_receivers.specs.Heads.{IsOrder}
use Rattle.vx_exchange_receivers.proofs.Orders.{has-kept}
use Rattle.vx_exchange_receivers.proofs.Places.{added-order}
use Rattle.vx_exchange_receivers.proofs.heads.add_to_order.Goals as goal

pub returns-clause-order : goal.returns-clause-order
returns-clause-order c =
    let e = c.place_of-place.ensures in
    let value = c.as_slice.ensures.value in
    subst (IsOrder c.args.merge.now c.args.heads.now) (sym c.in-Ok.ensures.items)
    (added-order c.args.merge.now c.args.heads.now c.args.order.now.items c.args.p c.place_of-place.result c.requires.order c.requires.row (rw value at e.bound) (rw value at e.before) (rw value at e.behind))

pub returns-clause-kept : goal.returns-clause-kept
returns-clause-kept c q h = subst (λ (ks : List ℕ). Contains ks q) (sym c.in-Ok.ensures.items) (has-kept c.args.order.now.items c.place_of-place.result c.args.p q h)

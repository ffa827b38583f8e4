use Rattle.std.proofs.Common.{arith}
use Rattle.vx_plan_nodes.specs.Outline.{size_of}
use Rattle.vx_exchange.proofs.KindDeals.{route-deals, round-deals, broadcast-deals, gather-deals, concat-deals}
use Rattle.vx_exchange.proofs.deal.deal_rows.Goals as goal

pub returns-in-Route-clause-ok : goal.returns-in-Route-clause-ok
returns-in-Route-clause-ok g c =
    let next = c.requires.next in
    rw c.in-Route.is (λ goes routes.
    route-deals (g.R.Router.route_of c.args.router.now) goes (size_of c.in-Route.field-0) c.in-Route.route c.args.next c.args.rows.rows c.args.lanes.now.items c.deal_by_route.new.lanes.items (omega (arith, next)) routes
    c.in_ok-deal_by_route-in-Route.ensures.ok)

pub returns-in-Round-clause-ok : goal.returns-in-Round-clause-ok
returns-in-Round-clause-ok g c =
    let next = c.requires.next in
    rw c.in-Round.is (λ goes routes.
    round-deals goes (size_of c.in-Round.field-0) c.args.next c.args.rows.rows c.args.lanes.now.items c.deal_in_turn.new.lanes.items (omega (arith, next)) c.in_ok-deal_in_turn-in-Round.ensures.ok)

pub returns-in-Broadcast-clause-ok : goal.returns-in-Broadcast-clause-ok
returns-in-Broadcast-clause-ok g c =
    rw c.in-Broadcast.is (λ goes routes.
    broadcast-deals goes (size_of c.in-Broadcast.field-0) c.args.next c.args.rows.rows c.args.lanes.now.items c.deal_to_each.new.lanes.items c.in_ok-deal_to_each-in-Broadcast.ensures.ok)

pub returns-in-Gather-clause-ok : goal.returns-in-Gather-clause-ok
returns-in-Gather-clause-ok g c =
    rw c.in-Gather.is (λ goes routes.
    gather-deals goes c.args.next c.args.rows.rows c.args.lanes.now.items c.deal_to_one.new.lanes.items c.in_ok-deal_to_one-in-Gather.ensures.ok)

pub returns-in-Concat-clause-ok : goal.returns-in-Concat-clause-ok
returns-in-Concat-clause-ok g c =
    rw c.in-Concat.is (λ goes routes.
    concat-deals goes c.args.next c.args.rows.rows c.args.lanes.now.items c.deal_to_one-in-Concat.new.lanes.items c.in_ok-deal_to_one-in-Concat.ensures.ok)

use Rattle.std.proofs.Common.{◌≡◌, ◌<◌, ℕ, List, length, map, sym, subst, arith, All}
use Rattle.std.proofs.lemmas.List.{length-map}
use Rattle.std.proofs.lemmas.Result.{on_ok_weaker}
use Rattle.vx_rows_values.specs.Values.{Row}
use Rattle.vx_exchange.specs.Routed.{routed_to}
use Rattle.vx_exchange.proofs.KindDeals.{routed-below, map-below, cuts-one_lane}
use Rattle.vx_exchange.proofs.deal.deal_by_route.Goals as goal

pub deal_by_consumer-requires-clause-there : goal.deal_by_consumer-requires-clause-there
deal_by_consumer-requires-clause-there g c =
    let hash = g.R.Router.route_of c.args.router.now in
    let m = c.len-2.result in
    let some = c.requires.some in
    let end = c.len-2.ensures in
    let f : Row → ℕ = routed_to hash c.args.route.now m in
    let are : c.consumers_of.new.found.items ≡ map f c.args.rows.rows = c.in_ok-consumers_of.ensures in
    let P : List ℕ → Type 0 = λ ks. All (λ k. k < m) ks in
    let below = subst P (sym are) (map-below f m c.args.rows.rows (λ x. routed-below hash (g.met.R.Router.in_range c.args.router.now) c.args.route.now m x (omega (arith, some, end)))) in
    λ k d l. let b = below k d l in omega (arith, b, end)

pub returns-then-len-eq1-clause-ok : goal.returns-then-len-eq1-clause-ok
returns-then-len-eq1-clause-ok g c =
    let hash = g.R.Router.route_of c.args.router.now in
    let rows = c.args.rows.rows in
    let old = c.args.lanes.now.items in
    let n = length old in
    let test = c.if-len-eq1.true in
    let end = c.len.ensures in
    let one : n ≡ 1 = omega (arith, test, end) in
    let f : Row → ℕ = routed_to hash c.args.route.now n in
    let below = map-below f n rows (λ x. routed-below hash (g.met.R.Router.in_range c.args.router.now) c.args.route.now n x (omega (arith, one))) in
    on_ok_weaker c.deal_to_one.result
    (λ cuts. cuts-one_lane (map f rows) rows old c.deal_to_one.new.lanes.items one (length-map rows f)
    (λ k d l. let b = below k d l in omega (arith, b, one)) cuts)
    c.deal_to_one.ensures.ok

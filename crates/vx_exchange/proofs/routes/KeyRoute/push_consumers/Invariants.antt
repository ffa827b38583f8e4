use Rattle.std.proofs.Common.{◌≡◌, ◌++◌, map, take}
use Rattle.vx_exchange.specs.Routed.{routed_to}
use Rattle.vx_exchange.proofs.routes.KeyRoute.push_consumers.Given as goal

abbrev pub invariant-loop-i : goal.invariant-loop-i
invariant-loop-i g l = l.found.items ≡ l.initial.found.items ++ map (routed_to (g.R.Router.route_of l.router) l.self l.n) (take l.i l.chunk.rows)

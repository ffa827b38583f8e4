use Rattle.std.proofs.Common.{◌≡◌, map, take}
use Rattle.vx_rows_views.specs.Chunks.{all_rows}
use Rattle.vx_exchange.specs.Routed.{routed_to}
use Rattle.vx_exchange.proofs.routes.consumers_of.Given as goal

abbrev pub invariant-loop-i : goal.invariant-loop-i
invariant-loop-i g l = l.found.items ≡ map (routed_to (g.R.Router.route_of l.router) l.route l.n) (all_rows (take l.i l.chunks))

use Rattle.std.proofs.Common.{◌≡◌, ◌≤◌, ◌-◌, ◌++◌, map, take, length}
use Rattle.vx_exchange.proofs.routes.push_of_numbers.Given as goal

abbrev pub invariant-loop-from : goal.invariant-loop-from
invariant-loop-from g l = record {
  within : l.from ≤ length l.keys;
  found : l.found.items ≡ l.initial.found.items ++ map (λ key. g.R.Router.route_of l.router l.name key l.n) (take l.from l.keys);
}

abbrev pub decreases-loop-from : goal.decreases-loop-from
decreases-loop-from g l = l.count - l.from

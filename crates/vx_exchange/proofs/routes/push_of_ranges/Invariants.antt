use Rattle.std.proofs.Common.{◌≡◌, ◌++◌, map, take}
use Rattle.vx_rows_values.specs.Values.{value_at}
use Rattle.vx_plan_nodes.specs.Routes.{range_consumer}
use Rattle.vx_exchange.proofs.routes.push_of_ranges.Given as goal

abbrev pub invariant-loop-i : goal.invariant-loop-i
invariant-loop-i l = l.found.items ≡ l.initial.found.items ++ map (λ key. range_consumer l.ranges (value_at key 0) l.n) (take l.i l.keys)

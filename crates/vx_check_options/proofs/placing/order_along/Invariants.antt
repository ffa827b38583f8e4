use Rattle.std.proofs.Common.{◌≡◌, ◌++◌, map, drop}
use Rattle.vx_plan_nodes.specs.DescribeView.{copying_of}
use Rattle.vx_check_rules.specs.Seen.{order_seen}
use Rattle.vx_check_options.specs.Placed.{order_along}
use Rattle.vx_check_options.proofs.placing.order_along.Given as goal

abbrev pub invariant-loop-i : goal.invariant-loop-i
invariant-loop-i l =
    order_along (copying_of l.copying) (order_seen l.order) (map (λ v. v.items) l.choices) ≡ l.entries.items ++ order_along (copying_of l.copying) (drop l.i (order_seen l.order)) (map (λ v. v.items) (drop l.i l.choices))

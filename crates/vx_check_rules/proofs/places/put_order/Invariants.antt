use Rattle.std.proofs.Common.{◌≡◌, ◌++◌, drop}
use Rattle.vx_plan_nodes.specs.DescribeView.{copying_of}
use Rattle.vx_check_rules.specs.Behaviour.{front_order}
use Rattle.vx_check_rules.proofs.places.put_order.Given as goal

abbrev pub invariant-loop-entry : goal.invariant-loop-entry
invariant-loop-entry l =
    l.fn.found.items ++ front_order (copying_of l.copying) l.order ≡ l.found.items ++ front_order (copying_of l.copying) (drop l.entry-index l.order)

use Rattle.std.proofs.Common.{◌≡◌, ◌++◌, [], map, drop}
use Rattle.vx_plan_nodes.specs.TypedView.{resolved_of}
use Rattle.vx_check_failures.specs.FailureView.{failure_is}
use Rattle.vx_check_causes.specs.Causes.{causes_from}
use Rattle.vx_check_causes.proofs.finding.causes_by.Given as goal

abbrev pub invariant-loop-failure : goal.invariant-loop-failure
invariant-loop-failure l =
    l.found.items ++ causes_from (resolved_of l.plan) (resolved_of l.claimed) l.causes.items (map failure_is (drop l.failure-index l.failures))
    ≡ causes_from (resolved_of l.plan) (resolved_of l.claimed) [] (map failure_is l.failures)

use Rattle.std.proofs.Common.{◌≡◌, ◌++◌, map, string_bytes, drop}
use Rattle.vx_plan_nodes.specs.TypedView.{resolved_of}
use Rattle.vx_check_failures.specs.Grouped.{lines_behind}
use Rattle.vx_check_failures.specs.FailureView.{failure_is, IsTableOf}
use Rattle.vx_check_failures.proofs.grouping.push_behind.Given as goal

abbrev pub invariant-loop-place : goal.invariant-loop-place
invariant-loop-place l = record {
  table : IsTableOf l.table l.plan;
  lines :
      string_bytes l.text ++ lines_behind (resolved_of l.plan) l.node (map failure_is (drop l.place l.failures)) (drop l.place l.causes)
      ≡ string_bytes l.initial.text ++ lines_behind (resolved_of l.plan) l.node (map failure_is l.failures) l.causes;
}

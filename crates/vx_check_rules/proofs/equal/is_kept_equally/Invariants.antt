use Rattle.std.proofs.Common.{◌≡◌, drop}
use Rattle.std.specs.List.{list_any}
use Rattle.vx_plan_nodes.specs.DescribeView.{kept_columns}
use Rattle.vx_check_rules.specs.DerivedView.{equality_of}
use Rattle.vx_check_rules.proofs.equal.is_kept_equally.Given as goal

abbrev pub invariant-loop-i : goal.invariant-loop-i
invariant-loop-i l = list_any (equality_of l.facts l.column) (kept_columns l.kept) ≡ list_any (equality_of l.facts l.column) (drop l.i (kept_columns l.kept))

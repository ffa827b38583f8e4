use Rattle.std.proofs.Common.{◌≡◌, drop}
use Rattle.vx_plan_nodes.specs.DescribeView.{kept_columns}
use Rattle.vx_check_rules.specs.Derived.{within_equally}
use Rattle.vx_check_rules.specs.DerivedView.{equality_of}
use Rattle.vx_check_rules.proofs.equal.are_kept_equally.Given as goal

abbrev pub invariant-loop-column : goal.invariant-loop-column
invariant-loop-column l =
    within_equally (equality_of l.facts) l.columns (kept_columns l.kept) ≡ within_equally (equality_of l.facts) (drop l.column-index l.columns) (kept_columns l.kept)

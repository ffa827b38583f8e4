use Rattle.std.proofs.Common.{◌≡◌, drop}
use Rattle.vx_plan_nodes.specs.DescribeView.{kept_columns}
use Rattle.vx_check_rules.specs.Rules.{within}
use Rattle.vx_check_rules.proofs.parts.are_kept.Given as goal

abbrev pub invariant-loop-column : goal.invariant-loop-column
invariant-loop-column l = within l.columns (kept_columns l.kept) ≡ within (drop l.column-index l.columns) (kept_columns l.kept)

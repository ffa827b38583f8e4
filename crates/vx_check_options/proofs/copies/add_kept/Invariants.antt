use Rattle.std.proofs.Common.{◌≡◌, ◌++◌, drop}
use Rattle.vx_plan_nodes.specs.DescribeView.{kept_columns}
use Rattle.vx_check_options.specs.Options.{places_from}
use Rattle.vx_check_options.proofs.copies.add_kept.Given as goal

abbrev pub invariant-loop-place : goal.invariant-loop-place
invariant-loop-place l =
    l.fn.found.items ++ places_from 0 (kept_columns l.kept) l.column ≡ l.found.items ++ places_from l.place (drop l.place (kept_columns l.kept)) l.column

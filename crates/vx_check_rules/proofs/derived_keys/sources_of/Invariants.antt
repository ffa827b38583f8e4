use Rattle.std.proofs.Common.{◌≡◌, ◌<◌, ℕ, take}
use Rattle.std.specs.List.{list_any}
use Rattle.vx_rows_values.specs.Limits.{max_columns}
use Rattle.vx_plan_nodes.specs.Describe.{source}
use Rattle.vx_plan_nodes.specs.DescribeView.{copying_of}
use Rattle.vx_plan_facts.specs.ColumnSetView.{set_of_columns}
use Rattle.vx_plan_facts.specs.Determined.{is_copy_of}
use Rattle.vx_check_rules.proofs.derived_keys.sources_of.Given as goal

abbrev pub invariant-loop-column : goal.invariant-loop-column
invariant-loop-column l = (x : ℕ) → x < max_columns
    → set_of_columns l.sources x ≡ list_any (λ c. is_copy_of x (source (copying_of l.copying) c)) (take l.column-index l.key)

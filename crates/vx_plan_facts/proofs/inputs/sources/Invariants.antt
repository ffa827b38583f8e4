use Rattle.std.proofs.Common.{◌≡◌, ◌<◌, ℕ}
use Rattle.vx_rows_values.specs.Limits.{max_columns}
use Rattle.vx_plan_facts.specs.Determined.{sources_in}
use Rattle.vx_plan_facts.specs.ColumnSetView.{set_of_columns}
use Rattle.vx_plan_facts.specs.AskingView.{copies_of}
use Rattle.vx_plan_facts.proofs.inputs.sources.Given as goal

abbrev pub invariant-loop-column : goal.invariant-loop-column
invariant-loop-column l = (x : ℕ) → x < max_columns → set_of_columns l.asked x ≡ sources_in l.column (copies_of l.copies) (set_of_columns l.set) x

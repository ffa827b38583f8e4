use Rattle.std.proofs.Common.{◌≡◌, ◌<◌, ℕ, nat_lt}
use Rattle.vx_rows_values.specs.Limits.{max_columns}
use Rattle.vx_plan_facts.specs.ColumnSetView.{set_of_columns}
use Rattle.vx_plan_facts.proofs.column_set.ColumnSet.first.Given as goal

abbrev pub invariant-loop-column : goal.invariant-loop-column
invariant-loop-column l = (c : ℕ) → c < max_columns → set_of_columns l.set c ≡ nat_lt c l.column

use Rattle.std.proofs.Common.{◌≡◌, ◌<◌, ℕ, take}
use Rattle.vx_rows_values.specs.Limits.{max_columns}
use Rattle.vx_rows_values.specs.Order.{order_columns}
use Rattle.vx_plan_facts.specs.Following.{set_of}
use Rattle.vx_plan_facts.specs.ColumnSetView.{set_of_columns}
use Rattle.vx_plan_facts.proofs.column_set.ColumnSet.of_order.Given as goal

abbrev pub invariant-loop-entry : goal.invariant-loop-entry
invariant-loop-entry l = (c : ℕ) → c < max_columns → set_of_columns l.set c ≡ set_of (order_columns (take l.entry-index l.order)) c

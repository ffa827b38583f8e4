use Rattle.std.proofs.Common.{◌≡◌, ◌<◌, ◌&&◌, ◌||◌, ℕ, nat_lt}
use Rattle.vx_rows_values.specs.Limits.{max_columns}
use Rattle.vx_plan_nodes.specs.Describe.{source}
use Rattle.vx_plan_facts.specs.Determined.{column_in}
use Rattle.vx_plan_facts.specs.ColumnSetView.{set_of_columns}
use Rattle.vx_plan_facts.specs.AskingView.{copies_of}
use Rattle.vx_plan_facts.proofs.inputs.put_copies.Given as goal

abbrev pub invariant-loop-column : goal.invariant-loop-column
invariant-loop-column l = (c : ℕ) → c < max_columns
    → set_of_columns l.found c ≡ (set_of_columns l.fn.found c || (nat_lt c l.column && column_in (set_of_columns l.answer) (source (copies_of l.copies) c)))

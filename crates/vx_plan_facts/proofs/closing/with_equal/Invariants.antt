use Rattle.std.proofs.Common.{◌≡◌, ◌<◌, ◌&&◌, ℕ, nat_lt}
use Rattle.vx_rows_values.specs.Limits.{max_columns}
use Rattle.vx_plan_facts.specs.FactsView.{facts_of}
use Rattle.vx_plan_facts.specs.ColumnSetView.{set_of_columns}
use Rattle.vx_plan_facts.specs.Closing.{is_reached}
use Rattle.vx_plan_facts.proofs.closing.with_equal.Given as goal

abbrev pub invariant-loop-column : goal.invariant-loop-column
invariant-loop-column l = (c : ℕ) → c < max_columns → set_of_columns l.found c ≡ (nat_lt c l.column && is_reached (facts_of l.own) (set_of_columns l.set) c)

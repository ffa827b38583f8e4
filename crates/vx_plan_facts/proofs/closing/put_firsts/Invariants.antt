use Rattle.std.proofs.Common.{◌≡◌, ◌<◌, ◌||◌, ℕ}
use Rattle.vx_rows_values.specs.Limits.{max_columns}
use Rattle.vx_plan_facts.specs.FactsView.{facts_of}
use Rattle.vx_plan_facts.specs.ColumnSetView.{set_of_columns}
use Rattle.vx_plan_facts.specs.Closing.{has_first}
use Rattle.vx_plan_facts.proofs.closing.put_firsts.Given as goal

abbrev pub invariant-loop-column : goal.invariant-loop-column
invariant-loop-column l =
    (v : ℕ) → v < max_columns → set_of_columns l.firsts v ≡ (set_of_columns l.fn.firsts v || has_first (facts_of l.own) (set_of_columns l.set) l.column v)

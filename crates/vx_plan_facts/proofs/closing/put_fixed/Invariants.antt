use Rattle.std.proofs.Common.{◌≡◌, ◌<◌, ◌||◌, ℕ, map, drop}
use Rattle.vx_rows_values.specs.Limits.{max_columns}
use Rattle.vx_rows_values.specs.Lists.{is_some_list}
use Rattle.vx_plan_facts.specs.Facts.{values_in}
use Rattle.vx_plan_facts.specs.FactsView.{fixed_of}
use Rattle.vx_plan_facts.specs.ColumnSetView.{set_of_columns}
use Rattle.vx_plan_facts.proofs.closing.put_fixed.Given as goal

abbrev pub invariant-loop-each : goal.invariant-loop-each
invariant-loop-each l =
    (v : ℕ) → v < max_columns → (set_of_columns l.firsts v || is_some_list (values_in (map fixed_of (drop l.each-index l.fixed)) v))
    ≡ (set_of_columns l.fn.firsts v || is_some_list (values_in (map fixed_of l.fixed) v))

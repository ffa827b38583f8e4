use Rattle.std.proofs.Common.{◌≡◌, map, drop}
use Rattle.vx_rows_values.specs.Lists.{is_some_list}
use Rattle.vx_plan_facts.specs.Facts.{values_in}
use Rattle.vx_plan_facts.specs.FactsView.{fixed_of}
use Rattle.vx_plan_facts.proofs.values.is_beside.Given as goal

abbrev pub invariant-loop-each : goal.invariant-loop-each
invariant-loop-each l = is_some_list (values_in (map fixed_of l.fixed) l.column) ≡ is_some_list (values_in (map fixed_of (drop l.each-index l.fixed)) l.column)

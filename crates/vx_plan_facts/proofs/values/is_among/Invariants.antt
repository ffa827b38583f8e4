use Rattle.std.proofs.Common.{◌≡◌, map, drop}
use Rattle.vx_rows_values.specs.ValueView.{val_of}
use Rattle.vx_plan_facts.specs.Fixed.{has_value}
use Rattle.vx_plan_facts.specs.Facts.{values_in}
use Rattle.vx_plan_facts.specs.FactsView.{fixed_of}
use Rattle.vx_plan_facts.proofs.values.is_among.Given as goal

abbrev pub invariant-loop-each : goal.invariant-loop-each
invariant-loop-each l =
    has_value (values_in (map fixed_of l.fixed) l.column) (val_of l.value) ≡ has_value (values_in (map fixed_of (drop l.each-index l.fixed)) l.column) (val_of l.value)

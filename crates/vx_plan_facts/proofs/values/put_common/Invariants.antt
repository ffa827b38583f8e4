use Rattle.std.proofs.Common.{◌≡◌, ◌++◌, map, drop}
use Rattle.std.specs.List.{filter}
use Rattle.vx_plan_facts.specs.Fixed.{has_value}
use Rattle.vx_plan_facts.specs.Facts.{values_in}
use Rattle.vx_plan_facts.specs.FactsView.{fixed_of}
use Rattle.vx_plan_facts.specs.Listing.{beside}
use Rattle.vx_plan_facts.proofs.values.put_common.Given as goal

abbrev pub invariant-loop-each : goal.invariant-loop-each
invariant-loop-each l =
    map fixed_of l.fn.fixed.items ++ beside l.column (filter (has_value (values_in (map fixed_of l.others) l.other)) (values_in (map fixed_of l.given) l.from))
    ≡ map fixed_of l.fixed.items ++ beside l.column (filter (has_value (values_in (map fixed_of l.others) l.other)) (values_in (map fixed_of (drop l.each-index l.given)) l.from))

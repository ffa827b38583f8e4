use Rattle.std.proofs.Common.{◌≡◌, ◌++◌, map, drop}
use Rattle.vx_plan_facts.specs.Facts.{values_in}
use Rattle.vx_plan_facts.specs.FactsView.{fixed_of}
use Rattle.vx_plan_facts.specs.Listing.{beside}
use Rattle.vx_plan_facts.proofs.values.put_values.Given as goal

abbrev pub invariant-loop-each : goal.invariant-loop-each
invariant-loop-each l =
    map fixed_of l.fn.fixed.items ++ beside l.column (values_in (map fixed_of l.given) l.from)
    ≡ map fixed_of l.fixed.items ++ beside l.column (values_in (map fixed_of (drop l.each-index l.given)) l.from)

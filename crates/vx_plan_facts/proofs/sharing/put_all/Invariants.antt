use Rattle.std.proofs.Common.{◌≡◌, ◌++◌, map}
use Rattle.vx_plan_facts.specs.Facts.{values_of}
use Rattle.vx_plan_facts.specs.FactsView.{fixed_of, facts_of}
use Rattle.vx_plan_facts.specs.Listing.{listed}
use Rattle.vx_plan_facts.proofs.sharing.put_all.Given as goal

abbrev pub invariant-loop-column : goal.invariant-loop-column
invariant-loop-column l = map fixed_of l.fixed.items ≡ map fixed_of l.fn.fixed.items ++ listed l.column (values_of (facts_of l.below))

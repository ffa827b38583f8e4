use Rattle.std.proofs.Common.{◌≡◌, map}
use Rattle.vx_plan_facts.specs.FactsView.{fixed_of, facts_of}
use Rattle.vx_plan_facts.specs.Listing.{listed, of_firsts, common}
use Rattle.vx_plan_facts.proofs.carrying.common_values.Given as goal

abbrev pub invariant-loop-column : goal.invariant-loop-column
invariant-loop-column l = map fixed_of l.fixed.items ≡ listed l.column (of_firsts l.firsts (common (facts_of l.left) (facts_of l.right)))

use Rattle.std.proofs.Common.{◌≡◌, ◌++◌, map}
use Rattle.vx_plan_nodes.specs.Outline.{entry_of}
use Rattle.vx_plan_facts.specs.FactsView.{fixed_of}
use Rattle.vx_plan_facts.specs.Fixed.{constants}
use Rattle.vx_plan_facts.specs.Listing.{listed}
use Rattle.vx_plan_facts.proofs.projecting.put_constants.Given as goal

abbrev pub invariant-loop-column : goal.invariant-loop-column
invariant-loop-column l = map fixed_of l.fixed.items ≡ map fixed_of l.fn.fixed.items ++ listed l.column (constants (map entry_of l.entries))

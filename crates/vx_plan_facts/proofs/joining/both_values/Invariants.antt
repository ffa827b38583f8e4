use Rattle.std.proofs.Common.{◌≡◌, map, length}
use Rattle.vx_plan_facts.specs.FactsView.{fixed_of, facts_of}
use Rattle.vx_plan_facts.specs.Listing.{listed, side_by_side}
use Rattle.vx_plan_facts.proofs.joining.both_values.Given as goal

abbrev pub invariant-loop-column : goal.invariant-loop-column
invariant-loop-column l = map fixed_of l.fixed.items ≡ listed l.column (side_by_side (length l.left.firsts.items) (facts_of l.left) (facts_of l.right))

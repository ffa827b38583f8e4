use Rattle.std.proofs.Common.{◌≡◌, map}
use Rattle.vx_plan_nodes.specs.DescribeView.{copying_of}
use Rattle.vx_plan_facts.specs.FactsView.{fixed_of, facts_of}
use Rattle.vx_plan_facts.specs.Listing.{listed, of_firsts, copied}
use Rattle.vx_plan_facts.proofs.carrying.copied_values.Given as goal

abbrev pub invariant-loop-column : goal.invariant-loop-column
invariant-loop-column l = map fixed_of l.fixed.items ≡ listed l.column (of_firsts l.firsts (copied (facts_of l.below) (copying_of l.copying)))

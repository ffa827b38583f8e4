use Rattle.std.proofs.Common.{◌≡◌, map, take}
use Rattle.vx_plan_nodes.specs.Outline.{filter_of}
use Rattle.vx_plan_facts.specs.FactsView.{fixed_of}
use Rattle.vx_plan_facts.specs.Listing.{named_values}
use Rattle.vx_plan_facts.proofs.values.named_values.Given as goal

abbrev pub invariant-loop-filter : goal.invariant-loop-filter
invariant-loop-filter l = map fixed_of l.fixed.items ≡ named_values (map filter_of (take l.filter-index l.filters))

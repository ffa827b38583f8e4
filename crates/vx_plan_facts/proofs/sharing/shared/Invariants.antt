use Rattle.std.proofs.Common.{◌≡◌, map}
use Rattle.vx_plan_facts.specs.FactsView.{fixed_of}
use Rattle.vx_plan_facts.specs.Listing.{shared}
use Rattle.vx_plan_facts.proofs.sharing.shared.Given as goal

abbrev pub invariant-loop-column : goal.invariant-loop-column
invariant-loop-column l = map fixed_of l.fixed.items ≡ shared l.firsts (map fixed_of l.given) l.column

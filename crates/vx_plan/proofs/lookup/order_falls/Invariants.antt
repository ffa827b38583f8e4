use Rattle.std.proofs.Common.{◌≡◌, ◌++◌, drop}
use Rattle.vx_plan.specs.Lookup.{order_falls}
use Rattle.vx_plan.proofs.lookup.order_falls.Given as goal

abbrev pub invariant-loop-entry : goal.invariant-loop-entry
invariant-loop-entry l = l.falls.items ++ order_falls (drop l.entry-index l.order) ≡ order_falls l.order

use Rattle.std.proofs.Common.{◌≡◌, ◌++◌, drop}
use Rattle.vx_catalog_relations.specs.Naming.{order_text}
use Rattle.vx_plan.proofs.naming.order_at.Given as goal

abbrev pub invariant-loop-entry : goal.invariant-loop-entry
invariant-loop-entry l = l.found.items ++ order_text l.names (drop l.entry-index l.order) ≡ order_text l.names l.order

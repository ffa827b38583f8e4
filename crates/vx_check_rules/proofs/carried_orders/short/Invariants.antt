use Rattle.std.proofs.Common.{ℕ}
use Rattle.vx_catalog_relations.specs.Relation.{Relation}
use Rattle.vx_plan_nodes.specs.Outline.{plan_of}
use Rattle.vx_plan_facts.specs.ColumnSetView.{set_of_columns}
use Rattle.vx_check_rules.specs.KnownNode.{AreOrdersOf, StaysKnown}
use Rattle.vx_check_rules.proofs.OrderSteps.{Few, Keeping}
use Rattle.vx_check_rules.proofs.carried_orders.short.Given as goal

abbrev pub invariant-loop-entry : goal.invariant-loop-entry
invariant-loop-entry l = record {
  few : Few l.short.items (set_of_columns l.passed);
  kept : StaysKnown l.fn.known l.known (plan_of l.node);
  keeping : (catalog : ℕ → Relation) → AreOrdersOf catalog l.fn.known (plan_of l.node) l.order l.order
      → Keeping catalog (plan_of l.node) l.order l.short.items l.entry-index (set_of_columns l.passed) (set_of_columns l.found);
}

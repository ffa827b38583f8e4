use Rattle.std.proofs.Common.{ℕ, ◌≤◌, length}
use Rattle.vx_catalog_relations.specs.Relation.{Relation}
use Rattle.vx_plan_nodes.specs.Outline.{plan_of}
use Rattle.vx_plan_facts.specs.ColumnSetView.{set_of_columns}
use Rattle.vx_check_rules.specs.KnownNode.{AreOrdersOf, StaysKnown}
use Rattle.vx_check_rules.specs.Seen.{order_seen}
use Rattle.vx_check_rules.proofs.OrderSteps.{Walking}
use Rattle.vx_check_rules.proofs.derived_orders.order_follows.Given as goal

abbrev pub invariant-loop-place : goal.invariant-loop-place
invariant-loop-place l = record {
  near : l.next ≤ length (order_seen l.given);
  kept : StaysKnown l.fn.known l.known (plan_of l.node);
  walking : (catalog : ℕ → Relation) → AreOrdersOf catalog l.fn.known (plan_of l.node) (order_seen l.given) (order_seen l.order)
      → Walking catalog (plan_of l.node) (order_seen l.given) (order_seen l.order) l.place l.next (set_of_columns l.passed) (set_of_columns l.found);
}

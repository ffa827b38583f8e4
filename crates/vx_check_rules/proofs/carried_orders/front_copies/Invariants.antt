use Rattle.std.proofs.Common.{◌≡◌, ◌≤◌, ℕ, true, length}
use Rattle.vx_rows_values.specs.Order.{order_columns}
use Rattle.vx_catalog_relations.specs.Relation.{Relation}
use Rattle.vx_catalog_relations.specs.Catalog.{all_below}
use Rattle.vx_plan_nodes.specs.DescribeView.{copying_of}
use Rattle.vx_plan_nodes.specs.Outline.{plan_of}
use Rattle.vx_plan_nodes.specs.Types.{width}
use Rattle.vx_plan_facts.specs.Equal.{equal_at}
use Rattle.vx_check_rules.specs.KnownNode.{AreCopiesOf}
use Rattle.vx_check_rules.proofs.CopySteps.{Copied}
use Rattle.vx_check_rules.proofs.carried_orders.front_copies.Given as goal

abbrev pub invariant-loop-entry : goal.invariant-loop-entry
invariant-loop-entry l = record {
  few : length l.copies.items ≤ l.entry-index;
  copied : (catalog : ℕ → Relation) → AreCopiesOf catalog l.known (plan_of l.input) l.outputs (copying_of l.copying) → all_below (width catalog (plan_of l.input)) (order_columns l.order) ≡ true
      → Copied l.outputs (copying_of l.copying) (equal_at catalog (plan_of l.input)) l.order l.copies.items l.entry-index;
}

use Rattle.std.proofs.Common.{◌≡◌, ◌<◌, ℕ}
use Rattle.vx_catalog_relations.specs.Relation.{Relation}
use Rattle.vx_plan_nodes.specs.DescribeView.{copying_of}
use Rattle.vx_plan_nodes.specs.Outline.{plan_of}
use Rattle.vx_plan_nodes.specs.Types.{width}
use Rattle.vx_plan_facts.specs.Equal.{equal_at}
use Rattle.vx_check_rules.specs.Derived.{copy_of}
use Rattle.vx_check_rules.specs.KnownNode.{AreCopiesOf}
use Rattle.vx_check_rules.proofs.CopySteps.{copy_from}
use Rattle.vx_check_rules.proofs.carried_orders.copy_of.Given as goal

abbrev pub invariant-loop-copy : goal.invariant-loop-copy
invariant-loop-copy l = (catalog : ℕ → Relation) → AreCopiesOf catalog l.known (plan_of l.input) l.outputs (copying_of l.copying) → l.column < width catalog (plan_of l.input)
    → copy_of l.outputs (copying_of l.copying) (equal_at catalog (plan_of l.input)) l.column ≡ copy_from l.copy l.outputs (copying_of l.copying) (equal_at catalog (plan_of l.input)) l.column

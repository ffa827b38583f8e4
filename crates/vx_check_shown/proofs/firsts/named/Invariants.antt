use Rattle.std.proofs.Common.{ℕ, take}
use Rattle.vx_catalog_relations.specs.Relation.{Relation}
use Rattle.vx_plan_nodes.specs.Outline.{plan_of}
use Rattle.vx_plan_nodes.specs.Types.{width}
use Rattle.vx_plan_facts.specs.Equal.{equal_at}
use Rattle.vx_check_rules.specs.KnownNode.{IsKeyOf}
use Rattle.vx_check_shown.specs.ShownKeys.{IsNamed}
use Rattle.vx_check_shown.proofs.firsts.named.Given as goal

abbrev pub invariant-loop-column : goal.invariant-loop-column
invariant-loop-column l = (catalog : ℕ → Relation) → IsKeyOf catalog l.known (plan_of l.node) l.key → IsNamed (width catalog (plan_of l.node)) (equal_at catalog (plan_of l.node)) (take l.column-index l.key) l.named.items

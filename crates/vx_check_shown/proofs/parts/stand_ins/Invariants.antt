use Rattle.std.proofs.Common.{◌≡◌, ℕ, true, drop}
use Rattle.vx_catalog_relations.specs.Relation.{Relation}
use Rattle.vx_catalog_relations.specs.Catalog.{all_below}
use Rattle.vx_plan_nodes.specs.DescribeView.{copying_of}
use Rattle.vx_plan_nodes.specs.Outline.{plan_of}
use Rattle.vx_plan_nodes.specs.Types.{width}
use Rattle.vx_plan_facts.specs.Equal.{equal_at}
use Rattle.vx_check_rules.specs.KnownNode.{AreCopiesOf}
use Rattle.vx_check_shown.specs.ShownPart.{stand_ins}
use Rattle.vx_check_shown.proofs.FirstColumns.{behind}
use Rattle.vx_check_shown.proofs.parts.stand_ins.Given as goal

abbrev pub invariant-loop-column : goal.invariant-loop-column
invariant-loop-column l = (catalog : ℕ → Relation) → AreCopiesOf catalog l.known (plan_of l.input) l.outputs (copying_of l.copying) → all_below (width catalog (plan_of l.input)) l.columns ≡ true
    → behind l.found.items (stand_ins l.outputs (copying_of l.copying) (equal_at catalog (plan_of l.input)) (drop l.column-index l.columns))
    ≡ stand_ins l.outputs (copying_of l.copying) (equal_at catalog (plan_of l.input)) l.columns

use Rattle.std.proofs.Common.{sym, ◌∙◌, ◌==◌}
use Rattle.vx_plan_nodes.specs.declared.typed.Projected.{Projected}
use Rattle.vx_catalog_relations.proofs.NameFacts.{list_any-map}
use Rattle.vx_plan_nodes.proofs.describe.KeptColumns.contains.Goals as goal

pub returns-in-Outputs : goal.returns-in-Outputs
returns-in-Outputs c =
    rw c.in-Outputs.is (c.is_among_outputs.ensures ∙ sym (list_any-map (λ y. c.args.column == y) (λ (p : Projected). p.column) c.in-Outputs.kept.now))

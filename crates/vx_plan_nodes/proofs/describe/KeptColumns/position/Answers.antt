use Rattle.std.proofs.Common.{sym, ◌∙◌, ◌==◌}
use Rattle.vx_plan_nodes.specs.declared.typed.Projected.{Projected}
use Rattle.vx_catalog_relations.proofs.NameFacts.{position-map}
use Rattle.vx_plan_nodes.proofs.describe.KeptColumns.position.Goals as goal

pub returns-in-Outputs : goal.returns-in-Outputs
returns-in-Outputs c =
    rw c.in-Outputs.is (c.place_of_output.ensures ∙ sym (position-map (λ k. c.args.column == k) (λ (p : Projected). p.column) c.in-Outputs.kept.now))

-- What the checker says of all nodes of a plan.
use Rattle.std.specs.Prelude.{◌≡◌, ◌≢◌, ℕ, List, None, Ok, string_bytes}
use Rattle.vx_catalog_relations.specs.Relation.{Relation}
use Rattle.vx_plan_json.specs.Document.{Document}
use Rattle.vx_plan_json.specs.Reading.{document_of_text}
use Rattle.vx_plan_nodes.specs.Names.{TypedPlanView}
use Rattle.vx_check_directions.specs.Planned.{planned}
use Rattle.vx_check_causes.specs.Grouped.{AreGrouped}
use Rattle.volcano_embedding.specs.Planning.{refusal_in, IsAccepted}
use Rattle.volcano_embedding.specs.declared.session.Findings.{Findings}
use Rattle.volcano_embedding.specs.declared.session.Findings.TheVariants as findings

-- the checker refuses the plan that the text is, and these are the lines of the nodes that fail, one for each, with the claim that is shown there: a cause before those
-- that come of it
pub record AreFailures (relations : List Relation) (text lines : List ℕ) : Type 0 where
  pub document : Document
  pub plan : TypedPlanView
  pub reads : document_of_text text ≡ Ok document
  pub says : planned document relations ≡ Ok plan
  pub refused : refusal_in plan ≢ None
  pub grouped : AreGrouped relations document plan lines

abbrev pub IsVerdict : List Relation → List ℕ → Findings → Type 0
IsVerdict relations text (findings.Accepted is_total) = (p : TypedPlanView) × IsAccepted relations text p × (is_total ≡ p.total)
IsVerdict relations text (findings.Failing lines) = AreFailures relations text (string_bytes lines)

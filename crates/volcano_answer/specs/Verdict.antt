-- A check of all nodes of a plan.
use Rattle.std.specs.Prelude.{◌≡◌, ◌≢◌, ℕ, List, None}
use Rattle.vx_catalog_relations.specs.Relation.{Relation}
use Rattle.vx_plan_json.specs.Document.{Document}
use Rattle.vx_plan_nodes.specs.Names.{TypedPlanView}
use Rattle.vx_check_causes.specs.Grouped.{AreGrouped}
use Rattle.vx_check.specs.Accepted.{accepted_text}
use Rattle.volcano_answer.specs.Commands.{refusal_in, IsShown}

-- each claim is shown, and this is the text that says so
abbrev pub IsAllShown : TypedPlanView → List ℕ → Type 0
IsAllShown p text = IsShown p × (text ≡ accepted_text p.total)

-- the checker refuses the plan p of a document, and these are the lines of the nodes that fail, one for each, with the claim that is shown there: a cause before those that come of it
abbrev pub AreFailures : List Relation → Document → TypedPlanView → List ℕ → Type 0
AreFailures relations d p lines = (refusal_in p ≢ None) × AreGrouped relations d p lines

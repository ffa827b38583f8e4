-- The plan of a document over a catalog that is judged and run.
use Rattle.std.specs.Prelude.{List, Result}
use Rattle.vx_catalog_relations.specs.Relation.{Relation}
use Rattle.vx_plan_nodes.specs.Names.{TypedPlanView}
use Rattle.vx_plan_json.specs.Document.{Document}
use Rattle.vx_plan_json.specs.Fault.{Refusal}
use Rattle.vx_plan.specs.Resolve.{resolved}
use Rattle.vx_check_directions.specs.Directed.{with_directions}

-- the typed plan of the document, whose joins by merging compare in the directions that its claims ask for
abbrev pub planned : Document → List Relation → Result TypedPlanView Refusal
planned d catalog = with_directions (resolved d catalog)

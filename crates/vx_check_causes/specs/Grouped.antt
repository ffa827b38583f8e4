-- The lines of all failures of a plan, a cause before those that come of it.
use Rattle.std.specs.Prelude.{ℕ, ◌≡◌, List, Option}
use Rattle.vx_catalog_relations.specs.Relation.{Relation}
use Rattle.vx_catalog_relations.specs.Catalog.{relation_at}
use Rattle.vx_plan_nodes.specs.Outline.{plan_in}
use Rattle.vx_plan_nodes.specs.Names.{TypedPlanView}
use Rattle.vx_plan_json.specs.Document.{Document}
use Rattle.vx_check_rules.specs.Refusal.{Rule}
use Rattle.vx_check_failures.specs.Failures.{failures_by}
use Rattle.vx_check_failures.specs.Grouped.{grouped_lines}
use Rattle.vx_check_causes.specs.Causes.{AreCauses}

-- all failures of a typed plan, by the rule table that it asks for
abbrev pub failures_of : TypedPlanView → List (ℕ × Rule)
failures_of p = failures_by p.derives (relation_at p.names.catalog) p.total (plan_in p.root)

-- these are the lines of the failures of a document's plan p, in groups
abbrev pub AreGrouped : List Relation → Document → TypedPlanView → List ℕ → Type 0
AreGrouped catalog d p lines = (causes : List (Option ℕ)) × AreCauses catalog d p (failures_of p) causes × (lines ≡ grouped_lines p (failures_of p) causes)

-- What the checker says of a document over a catalog: by the rule table that the document asks for, and by that of claims alone. Joins by merging compare in the directions
-- that the claimed orders of their inputs ask for.
use Rattle.std.specs.Prelude.{ℕ, List, Bool, false, Option, None, is_none, Result, Ok, Err}
use Rattle.vx_catalog_relations.specs.Relation.{Relation}
use Rattle.vx_catalog_relations.specs.Catalog.{relation_at}
use Rattle.vx_plan_nodes.specs.Names.{TypedPlanView}
use Rattle.vx_plan_nodes.specs.Outline.{plan_in}
use Rattle.vx_plan_json.specs.Fault.{Refusal}
use Rattle.vx_plan_json.specs.Document.{Document}
use Rattle.vx_plan.specs.Resolve.{resolved}
use Rattle.vx_check_rules.specs.Refusal.{Rule, refusal}
use Rattle.vx_check_rules.specs.Tables.{refusal_by}
use Rattle.vx_check_directions.specs.Directed.{directed}

-- the first refused node of a typed plan and what it does not show, if there is one, by the rule table that the plan asks for
abbrev pub refusal_in : TypedPlanView → Option (ℕ × Rule)
refusal_in p = refusal_by p.derives (relation_at p.names.catalog) p.total (directed p.derives (relation_at p.names.catalog) (plan_in p.root))

abbrev pub accepts : Result TypedPlanView Refusal → Bool
accepts (Ok p) = is_none (refusal_in p)
accepts (Err e) = false

-- the document fits the catalog, and the rule table that it asks for shows all of its claims
abbrev pub is_accepted : List Relation → Document → Bool
is_accepted catalog d = accepts (resolved d catalog)

abbrev pub refuses : Result TypedPlanView Refusal → Option (ℕ × Rule)
refuses (Ok p) = refusal_in p
refuses (Err e) = None

-- of a document that fits the catalog the first node that its table refuses, and what is not shown there
abbrev pub refused : List Relation → Document → Option (ℕ × Rule)
refused catalog d = refuses (resolved d catalog)

-- ---- by the table of claims alone

abbrev pub refusal_by_claims : TypedPlanView → Option (ℕ × Rule)
refusal_by_claims p = refusal (relation_at p.names.catalog) p.total (directed false (relation_at p.names.catalog) (plan_in p.root))

abbrev pub accepts_by_claims : Result TypedPlanView Refusal → Bool
accepts_by_claims (Ok p) = is_none (refusal_by_claims p)
accepts_by_claims (Err e) = false

-- the document fits the catalog, and the table of claims alone shows all of its claims
abbrev pub is_accepted_by_claims : List Relation → Document → Bool
is_accepted_by_claims catalog d = accepts_by_claims (resolved d catalog)

abbrev pub refuses_by_claims : Result TypedPlanView Refusal → Option (ℕ × Rule)
refuses_by_claims (Ok p) = refusal_by_claims p
refuses_by_claims (Err e) = None

-- of a document that fits the catalog the first node that the table of claims alone refuses, and what is not shown there
abbrev pub refused_by_claims : List Relation → Document → Option (ℕ × Rule)
refused_by_claims catalog d = refuses_by_claims (resolved d catalog)

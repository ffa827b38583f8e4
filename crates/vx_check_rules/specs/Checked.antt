-- What the checker says of a typed plan, by the rule table that it asks for.
use Rattle.std.specs.Prelude.{ℕ, Bool, Option}
use Rattle.vx_catalog_relations.specs.Relation.{Relation}
use Rattle.vx_catalog_relations.specs.Catalog.{relation_at}
use Rattle.vx_plan_nodes.specs.declared.typed_plan.TypedPlan.{TypedPlan}
use Rattle.vx_plan_nodes.specs.TypedView.{scope, plan, resolved_of}
use Rattle.vx_check_rules.specs.Refusal.{Rule}
use Rattle.vx_check_rules.specs.Tables.{allowed_by, root_allowed_by, refusal_by}

-- the relations of the plan's catalog, by their numbers
abbrev pub relations : TypedPlan → ℕ → Relation
relations p = relation_at (scope p).catalog

-- every node passes its tests
abbrev pub is_allowed : TypedPlan → Bool
is_allowed p = allowed_by (resolved_of p).derives (relations p) (plan p)

-- the root passes its own
abbrev pub is_root_allowed : TypedPlan → Bool
is_root_allowed p = root_allowed_by (resolved_of p).derives (relations p) (resolved_of p).total (plan p)

-- the first refused node and what it does not show, if there is one
abbrev pub refusal_of_plan : TypedPlan → Option (ℕ × Rule)
refusal_of_plan p = refusal_by (resolved_of p).derives (relations p) (resolved_of p).total (plan p)

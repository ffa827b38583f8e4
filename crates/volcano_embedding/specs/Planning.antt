-- What the bytes of a catalog and of a plan come to, and why they come to nothing.
use Rattle.std.specs.Prelude.{◌≡◌, ℕ, List, Option, Some, None, Result, Ok}
use Rattle.vx_catalog_relations.specs.Relation.{Relation}
use Rattle.vx_catalog_relations.specs.Catalog.{relation_at}
use Rattle.vx_catalog_relations.specs.Naming.{catalog_text}
use Rattle.vx_catalog_relations.specs.Naming as catalog
use Rattle.vx_catalog_relations.specs.declared.fault.CatalogFault.{CatalogFault}
use Rattle.vx_plan_json.specs.Fault.{◌>>=◌}
use Rattle.vx_plan_json.specs.Fault as plan
use Rattle.vx_plan_json.specs.Reading.{document_of_text}
use Rattle.vx_plan_json.specs.declared.fault.PlanFault.{PlanFault}
use Rattle.vx_check_directions.specs.Planned.{planned}
use Rattle.vx_plan_nodes.specs.Names.{TypedPlanView}
use Rattle.vx_plan_nodes.specs.Outline.{plan_in}
use Rattle.vx_check_rules.specs.Refusal.{Rule}
use Rattle.vx_check_rules.specs.Tables.{refusal_by}
use Rattle.vx_check_rules.specs.RuleView.{rule_of}
use Rattle.vx_check_rules.specs.declared.rule.Rule as rust_rule
use Rattle.volcano_refusals.specs.declared.refusal.Refusal.{Refusal}
use Rattle.volcano_refusals.specs.declared.refusal.Refusal.TheVariants as refusal

-- the plan that a text is, over a catalog
abbrev pub plan_text : List Relation → List ℕ → Result TypedPlanView plan.Refusal
plan_text relations text = document_of_text text >>= λ d. planned d relations

-- the first node whose claim is not shown by the rule table that the plan asks for, and the rule that says so
abbrev pub refusal_in : TypedPlanView → Option (ℕ × Rule)
refusal_in p = refusal_by p.derives (relation_at p.names.catalog) p.total (plan_in p.root)

-- the text is this plan over the catalog, and each claim of it is shown
pub record IsAccepted (relations : List Relation) (text : List ℕ) (p : TypedPlanView) : Type 0 where
  pub says : plan_text relations text ≡ Ok p
  pub shown : refusal_in p ≡ None

-- why a text is no catalog; here and below memory may run out anywhere
pub data NoCatalog (text : List ℕ) (e : Refusal) : Type 0 where
  catalog_memory : e ≡ refusal.NoMemory → NoCatalog text e
  for_catalog : (fault : CatalogFault) → e ≡ refusal.Catalog fault → catalog.Fails fault (catalog_text text) → NoCatalog text e

-- why a text is no plan over a catalog
pub data NoPlan (relations : List Relation) (text : List ℕ) (e : Refusal) : Type 0 where
  plan_memory : e ≡ refusal.NoMemory → NoPlan relations text e
  for_fault : (fault : PlanFault) → e ≡ refusal.Plan fault → plan.Fails fault (plan_text relations text) → NoPlan relations text e

-- why a text is no plan that the checker accepts: it is no plan, or the first of its claims that is not shown
pub data CheckRefuses (relations : List Relation) (text : List ℕ) (e : Refusal) : Type 0 where
  check_memory : e ≡ refusal.NoMemory → CheckRefuses relations text e
  for_plan : NoPlan relations text e → CheckRefuses relations text e
  for_rule : (p : TypedPlanView) (rule : rust_rule.Rule) (node : ℕ) → plan_text relations text ≡ Ok p → refusal_in p ≡ Some (node, rule_of rule) → e ≡ refusal.Check rule node
      → CheckRefuses relations text e

-- The plan over a catalog, and why there is none: what a plan that was read is over the catalog, and what is known of both where not all bytes are.
use Rattle.std.specs.Prelude.{◌≡◌, ℕ, List, Result, Ok}
use Rattle.vx_catalog_relations.specs.Relation.{Relation}
use Rattle.vx_catalog_relations.specs.Naming as catalog
use Rattle.vx_catalog_relations.specs.declared.fault.CatalogFault.{CatalogFault}
use Rattle.vx_check_directions.specs.Planned.{planned}
use Rattle.vx_plan_json.specs.Document.{Document}
use Rattle.vx_plan_json.specs.Fault.{◌>>=◌}
use Rattle.vx_plan_json.specs.Fault as plan
use Rattle.vx_plan_json.specs.declared.fault.PlanFault.{PlanFault}
use Rattle.vx_plan_nodes.specs.Names.{TypedPlanView}
use Rattle.vx_catalog_bytes.specs.Stored.{Stored, IfBytes}
use Rattle.volcano_refusals.specs.declared.refusal.Refusal.{Refusal}
use Rattle.volcano_refusals.specs.declared.refusal.Refusal.TheVariants as refusal

-- the plan of what was read, over a catalog
abbrev pub plan_from : List Relation → Result Document plan.Refusal → Result TypedPlanView plan.Refusal
plan_from relations read = read >>= λ d. planned d relations

-- what was read, by the facts that hold of it
abbrev pub Reading : Type 0 → Type 1
Reading A = (A → Type 0) → Type 0

-- all of it is known
abbrev pub exactly : {A : Type 0} → A → Reading A
exactly x = λ P. P x

-- as much is known as of the bytes that it was read from
abbrev pub read_from : {A : Type 0} → Stored → (List ℕ → A) → Reading A
read_from known read = λ P. IfBytes known (λ bytes. P (read bytes))

-- the plan that was read, over the catalog that was read
pub record IsPlanned (declared : Reading (Result (List Relation) catalog.Refusal)) (document : Reading (Result Document plan.Refusal)) (p : TypedPlanView) : Type 0 where
  pub declares : declared (λ r. r ≡ Ok p.names.catalog)
  pub planned : document (λ r. plan_from p.names.catalog r ≡ Ok p)

-- the first reason why there is none: the catalog, the plan over it
pub data IsPlanRefusal (declared : Reading (Result (List Relation) catalog.Refusal)) (document : Reading (Result Document plan.Refusal)) (e : Refusal) : Type 0 where
  for_catalog : (fault : CatalogFault) → e ≡ refusal.Catalog fault → declared (catalog.Fails fault) → IsPlanRefusal declared document e
  for_plan : (relations : List Relation) (fault : PlanFault) → e ≡ refusal.Plan fault → declared (λ r. r ≡ Ok relations) → document (λ r. plan.Fails fault (plan_from relations r))
      → IsPlanRefusal declared document e

-- The claims that the second rule table shows, put into a document.
use Rattle.std.specs.Prelude.{ℕ, ◌≡◌, Bool, true, false, ◌&&◌, List, [], ◌∷◌, map, Ok}
use Rattle.vx_catalog_relations.specs.Relation.{Relation}
use Rattle.vx_catalog_relations.specs.Catalog.{relation_at}
use Rattle.vx_plan_nodes.specs.declared.typed.Claim as rust_claim
use Rattle.vx_plan_nodes.specs.Plan.{Plan, scan, unary, binary, exchange}
use Rattle.vx_plan_nodes.specs.Typed.{typed}
use Rattle.vx_plan_nodes.specs.Outline.{plan_in, claim_of}
use Rattle.vx_plan_nodes.specs.Names.{scope_of, TypedPlanView}
use Rattle.vx_plan_json.specs.Document.{Document}
use Rattle.vx_plan_json.specs.Formed.{is_tree_form, are_keys_few}
use Rattle.vx_plan.specs.Resolve.{resolved}
use Rattle.vx_check_rules.specs.Rules.{numbers_eq}
use Rattle.vx_check_options.specs.Placed.{bare}
use Rattle.vx_check_options.specs.Laws.{AtEach}
use Rattle.vx_check_options.specs.Claimed.{reversed_claims}
use Rattle.vx_check_shown.specs.Strongest.{HasAllKeysDerived}
use Rattle.vx_check_shown.specs.FoundLaws.{HasFewKeys}
use Rattle.vx_check_annotate.specs.Unclaimed.{unclaimed}

-- the claims are those of a plan with the nodes of a typed one, which is typed too and has few keys
pub record AreClaimsFor (p : TypedPlanView) (claims : List rust_claim.Claim) (x : Plan) : Type 0 where
  pub listed : map claim_of claims ≡ reversed_claims x
  pub same : bare x ≡ bare (plan_in p.root)
  pub typed : typed (scope_of p.names) x ≡ true
  pub few : AtEach HasFewKeys x

-- the document with these claims of nodes: it resolves to the typed plan, over the catalog, whose plan is this one
pub record IsWritten (catalog : List Relation) (d : Document) (total : Bool) (x : Plan) (p : TypedPlanView) : Type 0 where
  pub resolves : resolved d catalog ≡ Ok p
  pub is_total : p.total ≡ total
  pub plan : plan_in p.root ≡ x

-- a document but for its claims, which resolves to a typed plan in which each node has few keys
pub record HasPlan (catalog : List Relation) (d e : Document) (p : TypedPlanView) : Type 0 where
  pub same : unclaimed e ≡ unclaimed d
  pub resolves : resolved e catalog ≡ Ok p
  pub few : AtEach HasFewKeys (plan_in p.root)

-- and has all keys that are shown over those of its inputs
pub record HasKeys (catalog : List Relation) (d e : Document) (p : TypedPlanView) : Type 0 where
  pub plan : HasPlan catalog d e p
  pub keys : AtEach (HasAllKeysDerived (relation_at catalog)) (plan_in p.root)

-- a document of the form, with few keys where it asks for what is known of columns, which differs from the other one in claims alone and resolves to the typed plan
pub record IsGiven (catalog : List Relation) (d e : Document) (p : TypedPlanView) : Type 0 where
  pub formed : is_tree_form d.root ≡ true
  pub few : are_keys_few d.derives d.root ≡ true
  pub same : unclaimed e ≡ unclaimed d
  pub resolves : resolved d catalog ≡ Ok p

-- ---- whether keys stay as they are

-- the same lists of columns
abbrev pub lists_eq : List (List ℕ) → List (List ℕ) → Bool
lists_eq [] [] = true
lists_eq [] (l ∷ ls) = false
lists_eq (k ∷ ks) [] = false
lists_eq (k ∷ ks) (l ∷ ls) = numbers_eq k l && lists_eq ks ls

-- the nodes of two plans claim the same keys
abbrev pub keys_stay : Plan → Plan → Bool
keys_stay (scan n c r m z) (scan i d s o y) = lists_eq c.keys d.keys
keys_stay (unary n c op p) (unary i d o q) = lists_eq c.keys d.keys && keys_stay p q
keys_stay (binary n c op p p2) (binary i d o q q2) = lists_eq c.keys d.keys && (keys_stay p q && keys_stay p2 q2)
keys_stay (exchange n c k m p) (exchange i d l o q) = lists_eq c.keys d.keys && keys_stay p q
keys_stay p q = false

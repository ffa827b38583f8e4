-- Nodes that no claims can save.
use Rattle.std.specs.Prelude.{◌≡◌, ℕ, ◌==◌, Bool, true, false, cond, ◌&&◌, ◌||◌, List, Ok}
use Rattle.vx_catalog_relations.specs.Relation.{Relation}
use Rattle.vx_catalog_relations.specs.Catalog.{relation_at}
use Rattle.vx_plan_nodes.specs.Plan.{Plan, scan, unary, binary, exchange}
use Rattle.vx_plan_nodes.specs.Outline.{plan_in}
use Rattle.vx_plan_nodes.specs.Names.{TypedPlanView}
use Rattle.vx_plan_json.specs.Document.{Document}
use Rattle.vx_plan_json.specs.Formed.{is_tree_form}
use Rattle.vx_plan.specs.Resolve.{resolved}
use Rattle.vx_check_rules.specs.Rules.{allowed}
use Rattle.vx_check_directions.specs.Directed.{directed}
use Rattle.vx_check_options.specs.Options.{is_within}
use Rattle.vx_check_options.specs.Laws.{AtEach}
use Rattle.vx_check_annotate.specs.Accepted.{HasRoom}
use Rattle.vx_check_annotate.specs.Unclaimed.{unclaimed}
use Rattle.vx_check_annotate.specs.Verdict.{is_accepted_by_claims}

-- the node with this number and all below it pass their tests
abbrev pub is_saved : (ℕ → Relation) → ℕ → Plan → Bool
is_saved catalog k (scan n c r m z) = (n == k) && allowed catalog (scan n c r m z)
is_saved catalog k (unary n c op p) = cond (n == k) (allowed catalog (unary n c op p)) (is_saved catalog k p)
is_saved catalog k (binary n c op p q) = cond (n == k) (allowed catalog (binary n c op p q)) (is_saved catalog k p || is_saved catalog k q)
is_saved catalog k (exchange n c kind m p) = cond (n == k) (allowed catalog (exchange n c kind m p)) (is_saved catalog k p)

-- no bound cuts off a part that a node of the document could claim
abbrev pub IsWithin : List Relation → Document → Type 0
IsWithin catalog d = (p : TypedPlanView) × (resolved (unclaimed d) catalog ≡ Ok p) × (is_within (relation_at catalog) (plan_in p.root) ≡ true)

-- at each node of the plan that the document resolves to fewer than 16 keys are claimed, so that none was left out
abbrev pub HasRoomAtEach : List Relation → Document → Type 0
HasRoomAtEach catalog e = (p : TypedPlanView) × (resolved e catalog ≡ Ok p) × AtEach HasRoom (plan_in p.root)

-- whatever a document with these nodes claims, it is not accepted by claims alone
abbrev pub IsNeverAccepted : List Relation → Document → Type 0
IsNeverAccepted catalog d = (e : Document) → is_tree_form e.root ≡ true → unclaimed e ≡ unclaimed d → is_accepted_by_claims catalog e ≡ false

-- and a test fails at this node or below it, in the directions that the claims ask of joins by merging
abbrev pub IsNeverSaved : List Relation → Document → ℕ → Type 0
IsNeverSaved catalog d k = (e : Document) → is_tree_form e.root ≡ true → unclaimed e ≡ unclaimed d → (r : TypedPlanView) → resolved e catalog ≡ Ok r
    → is_saved (relation_at catalog) k (directed false (relation_at catalog) (plan_in r.root)) ≡ false

-- Claims of all nodes of a plan, from the inputs upwards: keys that are shown over those of the inputs; and over claimed keys the part and the order that tell the most.
use Rattle.std.specs.Prelude.{ℕ, ◌≡◌, true, List, [], Option, Some, None, slice_get}
use Rattle.vx_catalog_relations.specs.Relation.{Relation}
use Rattle.vx_plan_nodes.specs.Plan.{any, Claim, Plan, scan, unary, binary, exchange, claim}
use Rattle.vx_plan_facts.specs.declared.known.KnownColumns as rust_known
use Rattle.vx_plan_facts.specs.KnownView.{IsKnownOf}
use Rattle.vx_check_rules.specs.Behaviour.{keyed_from}
use Rattle.vx_check_options.specs.Placed.{keyless}
use Rattle.vx_check_options.specs.Claimed.{note}
use Rattle.vx_check_shown.specs.ShownPart.{shown_part, are_named}
use Rattle.vx_check_shown.specs.ShownOrder.{shown_order, are_of_input}
use Rattle.vx_check_shown.specs.ShownKeys.{ShownKeys}

-- what is said of an input that a node does not have
abbrev pub no_claim : Claim
no_claim = keyless any []

-- ---- keys

-- keys alone
abbrev pub keyed : List (List ℕ) → Claim
keyed keys = note any [] keys

-- the keys that are shown at a node over these of its inputs
abbrev pub ShownAt : (ℕ → Relation) → Plan → (lefts rights found : List (List ℕ)) → Type 0
ShownAt catalog p lefts rights found = ShownKeys catalog p (keyed_from catalog p lefts rights) (claim p).keys found

-- the second plan is the first one with keys alone: those that are shown at each node, over the new ones of its inputs
abbrev pub IsKeyed : (ℕ → Relation) → Plan → Plan → Type 0
IsKeyed catalog (scan n c r m z) x = (keys : List (List ℕ)) × (x ≡ scan n (keyed keys) r m z) × ShownAt catalog (scan n c r m z) [] [] keys
IsKeyed catalog (unary n c op p) x =
    (keys : List (List ℕ)) × (y : Plan) × (x ≡ unary n (keyed keys) op y) × IsKeyed catalog p y × ShownAt catalog (unary n c op p) (claim y).keys [] keys
IsKeyed catalog (binary n c op p q) x =
    (keys : List (List ℕ)) × (y : Plan) × (z : Plan) × (x ≡ binary n (keyed keys) op y z) × IsKeyed catalog p y × IsKeyed catalog q z
    × ShownAt catalog (binary n c op p q) (claim y).keys (claim z).keys keys
IsKeyed catalog (exchange n c k m p) x =
    (keys : List (List ℕ)) × (y : Plan) × (x ≡ exchange n (keyed keys) k m y) × IsKeyed catalog p y × ShownAt catalog (exchange n c k m p) (claim y).keys [] keys

-- ---- parts and orders

-- what a node claims over these claims of its inputs: the part and the order that tell the most, and its keys
abbrev pub found_claim : (ℕ → Relation) → Plan → (left right : Claim) → Claim
found_claim catalog p c d = note (shown_part catalog p c.part d.part) (shown_order catalog p c.part c.order) (claim p).keys

-- the plan with such claims
abbrev pub found : (ℕ → Relation) → Plan → Plan
found catalog (scan n c r m z) = scan n (found_claim catalog (scan n c r m z) no_claim no_claim) r m z
found catalog (unary n c op p) = unary n (found_claim catalog (unary n c op p) (claim (found catalog p)) no_claim) op (found catalog p)
found catalog (binary n c op p q) =
    binary n (found_claim catalog (binary n c op p q) (claim (found catalog p)) (claim (found catalog q))) op (found catalog p) (found catalog q)
found catalog (exchange n c k m p) = exchange n (found_claim catalog (exchange n c k m p) (claim (found catalog p)) no_claim) k m (found catalog p)

-- ---- claims as the program finds them

-- the claim at this place, one that says nothing where there is none
abbrev pub or_nothing : Option Claim → Claim
or_nothing None = no_claim
or_nothing (Some c) = c

abbrev pub claim_at : List Claim → Option ℕ → Claim
claim_at claims None = no_claim
claim_at claims (Some i) = or_nothing (slice_get claims i)

-- the columns that these claims name are those of the node's inputs
pub record AreTold (catalog : ℕ → Relation) (p : Plan) (left right : Claim) : Type 0 where
  pub parts : are_named catalog p left.part right.part ≡ true
  pub order : are_of_input catalog p left.part left.order ≡ true

-- a claim for a known node, of the keys that it claims
pub record IsClaimOf (catalog : ℕ → Relation) (k : rust_known.KnownColumns) (p : Plan) (c : Claim) : Type 0 where
  pub known : IsKnownOf catalog k p
  pub keys : c.keys ≡ (claim p).keys

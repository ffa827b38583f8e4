-- That what is carried up is shown.
use Rattle.std.specs.Prelude.{ℕ, ◌≡◌, Bool, true, [], ◌∷◌, Some, None}
use Rattle.std.specs.List.{list_all}
use Rattle.vx_catalog_relations.specs.Relation.{Relation}
use Rattle.vx_plan_nodes.specs.Plan.{Part, Claim, Plan, scan, unary, binary, exchange}
use Rattle.vx_plan_nodes.specs.Describe.{Copying, source, place}
use Rattle.vx_check_rules.specs.Rules.{sizes_match, not_replicated, inputs_match, order_given, first_rows_known}
use Rattle.vx_check_rules.specs.Refusal.{first_failure, node_tests}
use Rattle.vx_check_rules.specs.Behaviour.{Sorted, Keyed, way, gives, sorts, keys_give, front_order, keys_up, part_up, node_part, node_order, node_keys}

-- at the place of a column stands its copy
abbrev pub CopiesBack : Type 0
CopiesBack = (k : Copying) (c d : ℕ) → place k c ≡ Some d → source k d ≡ Some c

-- the order that is carried up is shown
abbrev pub OrdersCarried : Type 0
OrdersCarried = (s : Sorted) → sorts s (front_order s.copying s.order) ≡ true

-- the keys that are carried up are shown
abbrev pub KeysCarried : Type 0
KeysCarried = (k : Keyed) → list_all (keys_give k) (keys_up k) ≡ true

-- the part of one input that is carried up is shown
abbrev pub PartsCarried : Type 0
PartsCarried = (k : Copying) (is_alone : Bool) (p q : Part) → part_up k p ≡ Some q → gives (way k ((is_alone, p) ∷ [])) q ≡ true

-- the node with this claim in place of its own
abbrev pub with_claim : Claim → Plan → Plan
with_claim d (scan n c r m z) = scan n d r m z
with_claim d (unary n c op p) = unary n d op p
with_claim d (binary n c op p q) = binary n d op p q
with_claim d (exchange n c k m p) = exchange n d k m p

-- with this claim in place of its own no test of the node fails
abbrev pub Shows : (ℕ → Relation) → Plan → Claim → Type 0
Shows catalog p c = first_failure (node_tests catalog (with_claim c p)) ≡ None

-- what is carried up to a node, with this part
abbrev pub carried : (ℕ → Relation) → Plan → Part → Claim
carried catalog p q = record { part = q; order = node_order catalog p; keys = node_keys catalog p }

-- where an operator fits its inputs, and the first rows that a limit takes are known, no test of the node fails with what is carried up in place of its claim
abbrev pub CarriedIsShown : Type 0
CarriedIsShown = (catalog : ℕ → Relation) (p : Plan) (q : Part) → sizes_match p ≡ true → not_replicated p ≡ true → inputs_match p ≡ true → order_given p ≡ true
    → first_rows_known catalog p ≡ true → node_part catalog p ≡ Some q → Shows catalog p (carried catalog p q)

-- Both rule tables as one: a plan says by which of them it is judged, by the table of claims alone or by that which also asks what is known of columns.
use Rattle.std.specs.Prelude.{◌≡◌, ◌↔◌, ℕ, Bool, true, false, not, ◌||◌, List, [], ◌∷◌, Option, None}
use Rattle.vx_catalog_relations.specs.Relation.{Relation}
use Rattle.vx_plan_nodes.specs.Plan.{Plan, size, is_one}
use Rattle.vx_check_rules.specs.Rules.{sizes_match, not_replicated, inputs_match, order_given, first_rows_known, part_shown, order_shown, keys_shown, is_total_order, allowed, root_allowed}
use Rattle.vx_check_rules.specs.Refusal.{Rule, size_mismatch, root_not_one, part_not_shown, inputs_not_matched, replicated_input, order_not_shown, order_needed, key_not_shown, total_not_shown, first_rows_open, refusal_of_tests, refusal}
use Rattle.vx_check_rules.specs.Derived.{inputs_match_derived, order_given_derived, first_rows_known_derived, part_shown_derived, order_shown_derived, keys_shown_derived, is_total_derived, allowed_derived, root_allowed_derived}

-- K4, K7, K11, K3, K6, K8 and K9
abbrev pub inputs_match_by : (derives : Bool) → (ℕ → Relation) → Plan → Bool
inputs_match_by false catalog p = inputs_match p
inputs_match_by true catalog p = inputs_match_derived catalog p

abbrev pub order_given_by : (derives : Bool) → (ℕ → Relation) → Plan → Bool
order_given_by false catalog p = order_given p
order_given_by true catalog p = order_given_derived catalog p

abbrev pub first_rows_known_by : (derives : Bool) → (ℕ → Relation) → Plan → Bool
first_rows_known_by false catalog p = first_rows_known catalog p
first_rows_known_by true catalog p = first_rows_known_derived catalog p

abbrev pub part_shown_by : (derives : Bool) → (ℕ → Relation) → Plan → Bool
part_shown_by false catalog p = part_shown catalog p
part_shown_by true catalog p = part_shown_derived catalog p

abbrev pub order_shown_by : (derives : Bool) → (ℕ → Relation) → Plan → Bool
order_shown_by false catalog p = order_shown catalog p
order_shown_by true catalog p = order_shown_derived catalog p

abbrev pub keys_shown_by : (derives : Bool) → (ℕ → Relation) → Plan → Bool
keys_shown_by false catalog p = keys_shown catalog p
keys_shown_by true catalog p = keys_shown_derived catalog p

abbrev pub is_total_by : (derives : Bool) → (ℕ → Relation) → Plan → Bool
is_total_by false catalog p = is_total_order catalog p
is_total_by true catalog p = is_total_derived catalog p

-- a node's tests, in their order; those of sizes and of exchanges' inputs are the same by both tables
abbrev pub tests_by : (derives : Bool) → (ℕ → Relation) → Plan → List (Bool × Rule)
tests_by derives catalog p =
    (sizes_match p, size_mismatch) ∷ (not_replicated p, replicated_input) ∷ (inputs_match_by derives catalog p, inputs_not_matched) ∷ (order_given_by derives catalog p, order_needed)
    ∷ (first_rows_known_by derives catalog p, first_rows_open) ∷ (part_shown_by derives catalog p, part_not_shown) ∷ (order_shown_by derives catalog p, order_not_shown) ∷ (keys_shown_by derives catalog p, key_not_shown) ∷ []

-- the root's own
abbrev pub root_tests_by : (derives : Bool) → (ℕ → Relation) → (total : Bool) → Plan → List (Bool × Rule)
root_tests_by derives catalog total p = (is_one (size p), root_not_one) ∷ (not total || is_total_by derives catalog p, total_not_shown) ∷ []

-- what the checker answers of a plan, none where it is accepted
abbrev pub refusal_by : (derives : Bool) → (ℕ → Relation) → (total : Bool) → Plan → Option (ℕ × Rule)
refusal_by derives catalog total p = refusal_of_tests (tests_by derives catalog) (root_tests_by derives catalog total) p

-- every node passes its tests
abbrev pub allowed_by : (derives : Bool) → (ℕ → Relation) → Plan → Bool
allowed_by false catalog p = allowed catalog p
allowed_by true catalog p = allowed_derived catalog p

-- the root passes its own
abbrev pub root_allowed_by : (derives : Bool) → (ℕ → Relation) → (total : Bool) → Plan → Bool
root_allowed_by false catalog total p = root_allowed catalog total p
root_allowed_by true catalog total p = root_allowed_derived catalog total p

-- by either table nothing is refused of exactly those plans that are allowed at every node, and at the root; and a plan that does not ask for what is known
-- of columns is judged by the first table
pub record TablesDecide : Type 0 where
  pub decides : (derives : Bool) (catalog : ℕ → Relation) (total : Bool) (p : Plan)
      → (refusal_by derives catalog total p ≡ None) ↔ ((allowed_by derives catalog p ≡ true) × (root_allowed_by derives catalog total p ≡ true))
  pub first : (catalog : ℕ → Relation) (total : Bool) (p : Plan) → refusal_by false catalog total p ≡ refusal catalog total p

-- That behaviours say what the rule table says.
use Rattle.std.specs.Prelude.{ℕ, ◌≡◌, Bool, true, ◌||◌, List, [], ◌∷◌}
use Rattle.std.specs.List.{list_all}
use Rattle.vx_rows_values.specs.declared.order.OrderEntry.{OrderEntry}
use Rattle.vx_catalog_relations.specs.Relation.{Relation}
use Rattle.vx_plan_nodes.specs.Plan.{Part, Plan, scan, unary, binary, exchange, claim, size, is_one}
use Rattle.vx_plan_nodes.specs.Types.{width}
use Rattle.vx_check_rules.specs.Rules.{sizes_match, not_replicated, order_given, first_rows_known, inputs_match, unless_one, shows, orders, keys_of, within, numbers_below}
use Rattle.vx_check_rules.specs.Refusal.{Rule, size_mismatch, part_not_shown, inputs_not_matched, replicated_input, order_not_shown, order_needed, key_not_shown, first_rows_open, first_failure, node_tests}
use Rattle.vx_check_rules.specs.Behaviour.{behaviour, fits, shown_part, shown_order, shown_key}

-- an operator fits its inputs where there is a way
abbrev pub FitsExactly : Type 0
FitsExactly = (catalog : ℕ → Relation) (p : Plan) → inputs_match p ≡ (is_one (size p) || fits (behaviour catalog p))

-- where it fits, a part is shown by a way
abbrev pub PartsExactly : Type 0
PartsExactly = (catalog : ℕ → Relation) (p : Plan) (q : Part) → inputs_match p ≡ true
    → (is_one (size p) || unless_one (shows catalog p) q) ≡ (is_one (size p) || shown_part (behaviour catalog p) q)

-- an order is shown by one that is there
abbrev pub OrdersExactly : Type 0
OrdersExactly = (catalog : ℕ → Relation) (p : Plan) (order : List OrderEntry) → orders catalog p order ≡ shown_order (behaviour catalog p) order

-- a key of columns of the node is shown by keys that are there
abbrev pub KeysExactly : Type 0
KeysExactly = (catalog : ℕ → Relation) (p : Plan) (cols : List ℕ) → within cols (numbers_below (width catalog p)) ≡ true
    → keys_of catalog p cols ≡ shown_key (behaviour catalog p) cols

-- a node's tests, in their order, by its behaviour
abbrev pub behaviour_tests : (ℕ → Relation) → Plan → List (Bool × Rule)
behaviour_tests catalog p =
    (sizes_match p, size_mismatch) ∷ (not_replicated p, replicated_input) ∷ (is_one (size p) || fits (behaviour catalog p), inputs_not_matched) ∷ (order_given p, order_needed)
    ∷ (first_rows_known catalog p, first_rows_open) ∷ (is_one (size p) || shown_part (behaviour catalog p) (claim p).part, part_not_shown) ∷ (shown_order (behaviour catalog p) (claim p).order, order_not_shown)
    ∷ (list_all (shown_key (behaviour catalog p)) (claim p).keys, key_not_shown) ∷ []

-- the claimed keys of a node name its columns
abbrev pub keys_name_columns : (ℕ → Relation) → Plan → Bool
keys_name_columns catalog p = list_all (λ k. within k (numbers_below (width catalog p))) (claim p).keys

-- and so at every node below
abbrev pub KeysNameColumns : (ℕ → Relation) → Plan → Type 0
KeysNameColumns catalog (scan n c r m z) = keys_name_columns catalog (scan n c r m z) ≡ true
KeysNameColumns catalog (unary n c op p) = (keys_name_columns catalog (unary n c op p) ≡ true) × KeysNameColumns catalog p
KeysNameColumns catalog (binary n c op p q) = (keys_name_columns catalog (binary n c op p q) ≡ true) × KeysNameColumns catalog p × KeysNameColumns catalog q
KeysNameColumns catalog (exchange n c k m p) = (keys_name_columns catalog (exchange n c k m p) ≡ true) × KeysNameColumns catalog p

-- the first test that fails at a node is the same, where its claimed keys name its columns
abbrev pub VerdictsExactly : Type 0
VerdictsExactly = (catalog : ℕ → Relation) (p : Plan) → keys_name_columns catalog p ≡ true → first_failure (node_tests catalog p) ≡ first_failure (behaviour_tests catalog p)

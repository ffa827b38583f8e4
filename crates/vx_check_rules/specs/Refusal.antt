-- The first node in post-order at which a test fails, and the first test that fails there.
use Rattle.std.specs.Prelude.{ℕ, Bool, cond, not, ◌||◌, List, [], ◌∷◌, Option, Some, None, option_map}
use Rattle.vx_catalog_relations.specs.Relation.{Relation}
use Rattle.vx_plan_nodes.specs.Plan.{Plan, scan, unary, binary, exchange, number, size, is_one}
use Rattle.vx_check_rules.specs.Rules.{sizes_match, not_replicated, inputs_match, order_given, first_rows_known, part_shown, order_shown, keys_shown, is_total_order}

-- what was not shown: the codes K1 to K9, and K11
pub data Rule : Type 0 where
  size_mismatch : Rule
  root_not_one : Rule
  part_not_shown : Rule
  inputs_not_matched : Rule
  replicated_input : Rule
  order_not_shown : Rule
  order_needed : Rule
  key_not_shown : Rule
  total_not_shown : Rule
  first_rows_open : Rule

-- the first test that fails
abbrev pub first_failure : List (Bool × Rule) → Option Rule
first_failure [] = None
first_failure (t ∷ ts) = cond t.0 (first_failure ts) (Some t.1)

-- a node's tests, in their order: K1, K5, K4, K7, K11, K3, K6, K8
abbrev pub node_tests : (ℕ → Relation) → Plan → List (Bool × Rule)
node_tests catalog p =
    (sizes_match p, size_mismatch) ∷ (not_replicated p, replicated_input) ∷ (inputs_match p, inputs_not_matched) ∷ (order_given p, order_needed)
    ∷ (first_rows_known catalog p, first_rows_open) ∷ (part_shown catalog p, part_not_shown) ∷ (order_shown catalog p, order_not_shown) ∷ (keys_shown catalog p, key_not_shown) ∷ []

-- the root's own: K2, K9
abbrev pub root_tests : (ℕ → Relation) → Bool → Plan → List (Bool × Rule)
root_tests catalog is_total p = (is_one (size p), root_not_one) ∷ (not is_total || is_total_order catalog p, total_not_shown) ∷ []

-- the first of two answers that is there
abbrev pub or_else : {X : Type 0} → Option X → Option X → Option X
or_else (Some x) o = Some x
or_else None o = o

-- the first failure at a node
abbrev pub refused_at : ℕ → List (Bool × Rule) → Option (ℕ × Rule)
refused_at n ts = option_map (λ r. (n, r)) (first_failure ts)

-- the first refused node of the plan in post-order, left before right, by the tests of each node
abbrev pub first_failing : (Plan → List (Bool × Rule)) → Plan → Option (ℕ × Rule)
first_failing tests (scan n c r m z) = refused_at n (tests (scan n c r m z))
first_failing tests (unary n c op p) = or_else (first_failing tests p) (refused_at n (tests (unary n c op p)))
first_failing tests (binary n c op p q) =
    or_else (first_failing tests p) (or_else (first_failing tests q) (refused_at n (tests (binary n c op p q))))
first_failing tests (exchange n c k m p) = or_else (first_failing tests p) (refused_at n (tests (exchange n c k m p)))

-- what is answered of a plan by such tests and by those of the root, none where it is accepted; the root is the last node
abbrev pub refusal_of_tests : (node_tests root_tests : Plan → List (Bool × Rule)) → Plan → Option (ℕ × Rule)
refusal_of_tests tests root p = or_else (first_failing tests p) (refused_at (number p) (root p))

-- by the rule table
abbrev pub first_refused : (ℕ → Relation) → Plan → Option (ℕ × Rule)
first_refused catalog p = first_failing (node_tests catalog) p

abbrev pub refusal : (ℕ → Relation) → Bool → Plan → Option (ℕ × Rule)
refusal catalog is_total p = refusal_of_tests (node_tests catalog) (root_tests catalog is_total) p

-- What a node's rule table shows there in place of the node's claim, over the claims that its inputs make.
use Rattle.std.specs.Prelude.{ℕ, Bool, true, false, cond, nat_le, ◌||◌, List, [], ◌∷◌, ◌++◌, length, Option, Some, None, option_map}
use Rattle.vx_rows_values.specs.Limits.{max_keys}
use Rattle.vx_catalog_relations.specs.Relation.{Relation}
use Rattle.vx_plan_nodes.specs.Plan.{Part, one, any, all, routed, Claim, Plan, scan, unary, binary, exchange, claim, size, is_one}
use Rattle.vx_plan_nodes.specs.Types.{width}
use Rattle.vx_plan_facts.specs.Equal.{equal_at}
use Rattle.vx_check_rules.specs.Refusal.{Rule, part_not_shown, order_not_shown, key_not_shown, first_failure, node_tests}
use Rattle.vx_check_rules.specs.Rules.{covers}
use Rattle.vx_check_rules.specs.Behaviour.{node_part, node_keys}
use Rattle.vx_check_rules.specs.Carried.{carried}
use Rattle.vx_check_rules.specs.Tables.{tests_by}
use Rattle.vx_check_options.specs.FoundKeys.{with_column}
use Rattle.vx_check_shown.specs.Standing.{first_equal}
use Rattle.vx_check_shown.specs.ShownPart.{shown_part}
use Rattle.vx_check_shown.specs.ShownOrder.{shown_order}

-- no test of the operator fails, of its inputs' sizes, parts and orders
abbrev pub is_of_claim : Option Rule → Bool
is_of_claim None = true
is_of_claim (Some part_not_shown) = true
is_of_claim (Some order_not_shown) = true
is_of_claim (Some key_not_shown) = true
is_of_claim (Some _) = false

-- ---- by the table of claims alone

-- the claim that is shown, where the operator fits its inputs and there is a part that follows
abbrev pub shown_claim : (ℕ → Relation) → Plan → Option Claim
shown_claim catalog p = cond (is_of_claim (first_failure (node_tests catalog p))) (option_map (carried catalog p) (node_part catalog p)) None

-- ---- by what is known of columns

-- the columns by those that are named for them, each once, behind others
abbrev pub with_named : (name : ℕ → ℕ) → List ℕ → List ℕ → List ℕ
with_named name named [] = named
with_named name named (c ∷ cols) = with_named name (with_column named (name c)) cols

-- the keys with one more, if it contains none of them and they are not too many for a plan
abbrev pub with_new : List (List ℕ) → List ℕ → List (List ℕ)
with_new keys key = cond (nat_le max_keys (length keys) || covers keys key) keys (keys ++ key ∷ [])

-- the keys with more of them, by such columns
abbrev pub with_named_keys : (name : ℕ → ℕ) → List (List ℕ) → List (List ℕ) → List (List ℕ)
with_named_keys name keys [] = keys
with_named_keys name keys (key ∷ more) = with_named_keys name (with_new keys (with_named name [] key)) more

-- the left or only input of a node, and its right or only one; a scan, at whose inputs nothing looks, stands for its own
abbrev pub first_input : Plan → Plan
first_input (scan n c r m z) = scan n c r m z
first_input (unary n c op p) = p
first_input (binary n c op p q) = p
first_input (exchange n c k m p) = p

abbrev pub second_input : Plan → Plan
second_input (scan n c r m z) = scan n c r m z
second_input (unary n c op p) = p
second_input (binary n c op p q) = q
second_input (exchange n c k m p) = p

-- the part and the order that tell the most, and the keys that are carried up; of equal columns the order and the keys name the first
abbrev pub derived_claim : (ℕ → Relation) → Plan → Claim
derived_claim catalog p = record {
  part = shown_part catalog p (claim (first_input p)).part (claim (second_input p)).part;
  order = shown_order catalog p (claim (first_input p)).part (claim (first_input p)).order;
  keys = with_named_keys (first_equal (width catalog p) (equal_at catalog p)) [] (node_keys catalog p);
}

-- the claim, if not one worker's part is claimed of several
abbrev pub is_had : (alone : Bool) → Part → Bool
is_had alone one = alone
is_had alone any = true
is_had alone all = true
is_had alone (routed r cols) = true

abbrev pub if_had : (alone : Bool) → Claim → Option Claim
if_had alone c = cond (is_had alone c.part) (Some c) None

-- the claim that is shown, where the operator fits its inputs and there is a part that follows
abbrev pub shown_derived : (ℕ → Relation) → Plan → Option Claim
shown_derived catalog p = cond (is_of_claim (first_failure (tests_by true catalog p))) (if_had (is_one (size p)) (derived_claim catalog p)) None

-- ---- by either table

abbrev pub shown_claim_by : (derives : Bool) → (ℕ → Relation) → Plan → Option Claim
shown_claim_by false catalog p = shown_claim catalog p
shown_claim_by true catalog p = shown_derived catalog p

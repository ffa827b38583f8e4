-- Claims that tell the most that the second rule table shows.
use Rattle.std.specs.Prelude.{ℕ, ◌≡◌, ◌<◌, ◌≤◌, Bool, true, false, ◌||◌, List, length}
use Rattle.vx_rows_values.specs.declared.order.OrderEntry.{OrderEntry}
use Rattle.vx_rows_values.specs.Order.{order_columns}
use Rattle.vx_catalog_relations.specs.Relation.{Relation}
use Rattle.vx_catalog_relations.specs.Catalog.{all_below}
use Rattle.vx_plan_nodes.specs.Plan.{Part, one, Plan, claim, size, is_one}
use Rattle.vx_plan_nodes.specs.Types.{width, part_columns}
use Rattle.vx_plan_nodes.specs.Typed.{are_columns}
use Rattle.vx_plan_facts.specs.Determined.{determined}
use Rattle.vx_plan_facts.specs.Equal.{equal_at}
use Rattle.vx_plan_facts.specs.Following.{order_follows}
use Rattle.vx_check_rules.specs.Rules.{sizes_match, shows, unless_one, orders, covers}
use Rattle.vx_check_rules.specs.Behaviour.{behaviour, shown_key}
use Rattle.vx_check_rules.specs.Derived.{inputs_match_derived, part_derived, order_given_derived, order_derived}
use Rattle.vx_check_shown.specs.Standing.{named_first}
use Rattle.vx_check_shown.specs.PartLaws.{told}

-- at a node, over the keys that its inputs claim: 16 keys at most, and where fewer are claimed, each list of columns that holds one of the inputs' keys contains a
-- claimed one, by the first ones of equal columns
pub record HasAllKeysDerived (catalog : ℕ → Relation) (p : Plan) : Type 0 where
  pub few : length (claim p).keys ≤ 16
  pub keys : length (claim p).keys < 16 → (x : List ℕ) → all_below (width catalog p) x ≡ true → shown_key (behaviour catalog p) x ≡ true
      → covers (claim p).keys (named_first (width catalog p) (equal_at catalog p) x) ≡ true

-- at a node, over the claims of its inputs: one worker claims all rows; where the inputs fit, the claimed part tells each one that is shown, of columns of the node, none
-- twice; where they are in the orders that are needed, each order that is shown follows from the claimed one; and it has all keys
pub record IsStrongestDerived (catalog : ℕ → Relation) (p : Plan) : Type 0 where
  pub alone : is_one (size p) ≡ true → (claim p).part ≡ one
  pub part : is_one (size p) ≡ false → sizes_match p ≡ true → inputs_match_derived catalog p ≡ true → (q : Part) → are_columns (width catalog p) (part_columns q) ≡ true
      → (unless_one (shows catalog p) q || part_derived catalog p q) ≡ true → told (equal_at catalog p) (claim p).part q ≡ true
  pub order : order_given_derived catalog p ≡ true → (order : List OrderEntry) → all_below (width catalog p) (order_columns order) ≡ true → (orders catalog p order || order_derived catalog p order) ≡ true
      → order_follows (equal_at catalog p) (determined catalog p) (claim p).order order ≡ true
  pub keys : HasAllKeysDerived catalog p

-- The order that a node shows is one by the table, each other one by the table follows from it, and none of its columns can be left out.
use Rattle.std.specs.Prelude.{◌≡◌, ℕ, ◌==◌, Bool, true, ◌||◌, List, []}
use Rattle.vx_rows_values.specs.declared.order.OrderEntry.{OrderEntry}
use Rattle.vx_rows_values.specs.Order.{order_columns}
use Rattle.std.specs.List.{list_all}
use Rattle.vx_catalog_relations.specs.Catalog.{relation_at, all_below, IsCatalog}
use Rattle.vx_catalog_relations.specs.Relation.{Relation}
use Rattle.vx_plan_nodes.specs.Plan.{Part, any, Plan, scan, unary, binary, exchange, claim}
use Rattle.vx_plan_nodes.specs.Typed.{Scope, are_columns, typed}
use Rattle.vx_plan_nodes.specs.Types.{width}
use Rattle.vx_plan_facts.specs.Determined.{determined}
use Rattle.vx_plan_facts.specs.Equal.{equal_at}
use Rattle.vx_plan_facts.specs.Following.{short, order_follows}
use Rattle.vx_check_rules.specs.Rules.{orders}
use Rattle.vx_check_rules.specs.Derived.{order_given_derived, order_derived}
use Rattle.vx_check_shown.specs.Standing.{first_equal}
use Rattle.vx_check_shown.specs.ShownOrder.{shown_order}

-- the part and the order that the (left) input claims
abbrev pub part_below : Plan → Part
part_below (scan n c r m z) = any
part_below (unary n c op p) = (claim p).part
part_below (binary n c op p p2) = (claim p).part
part_below (exchange n c k merge p) = (claim p).part

abbrev pub order_below : Plan → List OrderEntry
order_below (scan n c r m z) = []
order_below (unary n c op p) = (claim p).order
order_below (binary n c op p p2) = (claim p).order
order_below (exchange n c k merge p) = (claim p).order

-- the order that a node shows over what its (left) input claims
abbrev pub order_over_claims : (ℕ → Relation) → Plan → List OrderEntry
order_over_claims catalog p = shown_order catalog p (part_below p) (order_below p)

-- each column is the first of those that are equal to it
abbrev pub names_firsts : (ℕ → Relation) → Plan → List OrderEntry → Bool
names_firsts catalog p order = list_all (λ c. first_equal (width catalog p) (equal_at catalog p) c == c) (order_columns order)

pub record IsLongestOrder (catalog : ℕ → Relation) (p : Plan) (had : List OrderEntry) : Type 0 where
  -- it is shown by the second table
  pub shown : order_derived catalog p had ≡ true
  -- each order that either table shows follows from it, where what is asked of the inputs' orders is given
  pub most : order_given_derived catalog p ≡ true → (order : List OrderEntry) → all_below (width catalog p) (order_columns order) ≡ true
      → (orders catalog p order || order_derived catalog p order) ≡ true → order_follows (equal_at catalog p) (determined catalog p) had order ≡ true
  -- no column is determined by those before it
  pub shortened : short (determined catalog p) had ≡ had
  pub firsts : names_firsts catalog p had ≡ true
  -- it names columns of the node, none twice, so that the node may claim it
  pub columns : are_columns (width catalog p) (order_columns had) ≡ true

-- of typed plans over a catalog, at the top
abbrev pub ShownOrderTellsTheMost : Type 0
ShownOrderTellsTheMost = (s : Scope) (p : Plan) → IsCatalog s.catalog → typed s p ≡ true → IsLongestOrder (relation_at s.catalog) p (order_over_claims (relation_at s.catalog) p)

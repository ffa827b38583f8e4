-- The longest order that a node shows by what is known of columns, where its (left) input has a part and an order.
use Rattle.std.specs.Prelude.{◌≡◌, ℕ, Bool, true, cond, ◌&&◌, ◌||◌, List}
use Rattle.vx_rows_values.specs.declared.order.OrderEntry.{OrderEntry}
use Rattle.vx_rows_values.specs.Order.{order_columns}
use Rattle.vx_catalog_relations.specs.Catalog.{all_below}
use Rattle.vx_catalog_relations.specs.Relation.{Relation}
use Rattle.vx_plan_nodes.specs.Plan.{Part, Plan, scan, unary, binary, exchange, size, is_one}
use Rattle.vx_plan_nodes.specs.Types.{width, part_columns}
use Rattle.vx_plan_nodes.specs.Describe.{Copying, OrderAfter}
use Rattle.vx_plan_facts.specs.declared.known.KnownColumns as rust_known
use Rattle.vx_plan_facts.specs.Determined.{determined}
use Rattle.vx_plan_facts.specs.Equal.{equal_at}
use Rattle.vx_plan_facts.specs.Following.{short}
use Rattle.vx_check_rules.specs.Behaviour.{order_after}
use Rattle.vx_check_rules.specs.KnownNode.{HasCopies, is_whole}
use Rattle.vx_check_rules.specs.Derived.{goes_on_with, unary_order, binary_order}
use Rattle.vx_check_shown.specs.Standing.{ordered_first}

-- the order that a node has, where its (left) input has this part and this order
abbrev pub order_had : (ℕ → Relation) → Plan → Part → List OrderEntry → List OrderEntry
order_had catalog (scan n c r m z) q below = (catalog r).order
order_had catalog (unary n c op p) q below = unary_order (width catalog (unary n c op p)) op (equal_at catalog p) (determined catalog p) below
order_had catalog (binary n c op p p2) q below = binary_order op below
order_had catalog (exchange n c k merge p) q below = cond (is_one (size p) || goes_on_with catalog k p q below) below merge

-- an order without what earlier columns determine, each entry by the first of the columns that are equal to its own
abbrev pub shortened : (ℕ → Relation) → Plan → List OrderEntry → List OrderEntry
shortened catalog p given = ordered_first (width catalog p) (equal_at catalog p) (short (determined catalog p) given)

-- the longest order that a node shows
abbrev pub shown_order : (ℕ → Relation) → Plan → Part → List OrderEntry → List OrderEntry
shown_order catalog p q below = shortened catalog p (order_had catalog p q below)

-- the part and the order name columns of this plan
abbrev pub are_of : (ℕ → Relation) → Plan → Part → List OrderEntry → Bool
are_of catalog p q order = all_below (width catalog p) (part_columns q) && all_below (width catalog p) (order_columns order)

-- and of the (left) input of a node, if it has one
abbrev pub are_of_input : (ℕ → Relation) → Plan → Part → List OrderEntry → Bool
are_of_input catalog (scan n c r m z) q below = true
are_of_input catalog (unary n c op p) q below = are_of catalog p q below
are_of_input catalog (binary n c op p p2) q below = are_of catalog p q below
are_of_input catalog (exchange n c k merge p) q below = are_of catalog p q below

-- ---- as the program finds it

-- a known node p over a known input q, of which its columns are such copies; the order is of columns of the input, and what becomes of it is one of columns
-- of the node where rows stay whole
pub record HasOrderBelow (catalog : ℕ → Relation) (k : rust_known.KnownColumns) (p q : Plan) (copying : Copying) (after : OrderAfter) (below : List OrderEntry) : Type 0 where
  pub input : HasCopies catalog k p q copying
  pub of_input : all_below (width catalog q) (order_columns below) ≡ true
  pub sorted_below : is_whole copying ≡ true → all_below (width catalog p) (order_columns (order_after after below)) ≡ true

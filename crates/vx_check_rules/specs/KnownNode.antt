-- What the second table's tests ask for at a node of whose columns is known, and what is still known after them.
use Rattle.std.specs.Prelude.{◌≡◌, ◌&&◌, ℕ, Bool, true, false, List, map, length}
use Rattle.std.specs.List.{list_all, list_any}
use Rattle.vx_rows_values.specs.declared.order.OrderEntry.{OrderEntry}
use Rattle.vx_rows_values.specs.Order.{order_columns}
use Rattle.vx_catalog_relations.specs.Relation.{Relation}
use Rattle.vx_catalog_relations.specs.Catalog.{relation_at, all_below}
use Rattle.vx_plan_nodes.specs.Plan.{Part, Unary, project, limit, by_merging, Binary, join, Plan, claim, size, is_one, left_order, right_order}
use Rattle.vx_plan_nodes.specs.Types.{width, unary_width, part_columns}
use Rattle.vx_plan_facts.specs.declared.known.KnownColumns as rust_known
use Rattle.vx_plan_facts.specs.KnownView.{IsKnownOf}
use Rattle.vx_plan_facts.specs.Naming.{both_within, IsTypedOver}
use Rattle.vx_plan_facts.specs.Asking.{Reaches}
use Rattle.vx_plan_facts.specs.Determined.{Columns, sources_in, determined}
use Rattle.vx_plan_facts.specs.Equal.{Equality, equal_at}
use Rattle.vx_plan_facts.specs.Following.{set_of, short, order_follows}
use Rattle.vx_plan_nodes.specs.Describe.{Copying, whole_rows, entries_kept, kept_column, OrderAfter}
use Rattle.vx_check_rules.specs.Behaviour.{order_after}
use Rattle.vx_check_rules.specs.Derived.{is_total_derived, front_copies}

-- a typed node of whose columns is known
pub record IsKnownTyped (catalog : List Relation) (k : rust_known.KnownColumns) (p : Plan) : Type 0 where
  pub known : IsKnownOf (relation_at catalog) k p
  pub typed : IsTypedOver catalog p

-- both orders are of columns of the node
pub record AreOrdersOf (catalog : ℕ → Relation) (k : rust_known.KnownColumns) (p : Plan) (given order : List OrderEntry) : Type 0 where
  pub known : IsKnownOf catalog k p
  pub given_below : all_below (width catalog p) (order_columns given) ≡ true
  pub order_below : all_below (width catalog p) (order_columns order) ≡ true

-- a part and an order of columns of the node
pub record AreGivenOf (catalog : ℕ → Relation) (k : rust_known.KnownColumns) (p : Plan) (q : Part) (order : List OrderEntry) : Type 0 where
  pub known : IsKnownOf catalog k p
  pub part_below : all_below (width catalog p) (part_columns q) ≡ true
  pub order_below : all_below (width catalog p) (order_columns order) ≡ true

-- where this node is known, whatever is known of others stays so
abbrev pub StaysKnown : (old new : rust_known.KnownColumns) → Plan → Type 0
StaysKnown old new p = (catalog : ℕ → Relation) → IsKnownOf catalog old p → (q : Plan) → IsKnownOf catalog old q → IsKnownOf catalog new q

-- of the first w columns those that are copies are copies of columns of this node
pub record AreCopiesOf (catalog : ℕ → Relation) (k : rust_known.KnownColumns) (p : Plan) (w : ℕ) (copying : Copying) : Type 0 where
  pub known : IsKnownOf catalog k p
  pub reaches : Reaches w copying (width catalog p)

-- the order of an output over one input, by how columns are copied and what becomes of the order
abbrev pub order_by : ℕ → Copying → OrderAfter → Equality → (Columns → Columns) → List OrderEntry → List OrderEntry
order_by w whole_rows after e det below = order_after after below
order_by w copying after e det below = front_copies w copying e (short det below)

-- rows stay whole
abbrev pub is_whole : Copying → Bool
is_whole whole_rows = true
is_whole copying = false

-- a node p over an input q, of which its columns are such copies
pub record HasCopies (catalog : ℕ → Relation) (k : rust_known.KnownColumns) (p q : Plan) (copying : Copying) : Type 0 where
  pub known : IsKnownOf catalog k p
  pub copies : AreCopiesOf catalog k q (width catalog p) copying

-- and the order of its output is of its columns, where rows stay whole
pub record HasInput (catalog : ℕ → Relation) (k : rust_known.KnownColumns) (p q : Plan) (copying : Copying) (after : OrderAfter) : Type 0 where
  pub input : HasCopies catalog k p q copying
  pub sorted_below : is_whole copying ≡ true → all_below (width catalog p) (order_columns (order_after after (claim q).order)) ≡ true

-- a key of columns of the node
pub record IsKeyOf (catalog : ℕ → Relation) (k : rust_known.KnownColumns) (p : Plan) (key : List ℕ) : Type 0 where
  pub known : IsKnownOf catalog k p
  pub key_below : all_below (width catalog p) key ≡ true

-- a node p whose rows are those of an input q, both known
pub record IsPassed (catalog : ℕ → Relation) (k : rust_known.KnownColumns) (p q : Plan) : Type 0 where
  pub known : IsKnownOf catalog k p
  pub input : IsKnownOf catalog k q
  pub wide : width catalog p ≡ width catalog q

-- ---- by operators

-- what a merge join asks of its inputs' orders follows from them
abbrev pub pairs_follow : (ℕ → Relation) → Binary → Plan → Plan → Bool
pairs_follow catalog (join (by_merging falls) on) p q =
    order_follows (equal_at catalog p) (determined catalog p) (claim p).order (left_order falls on)
    && order_follows (equal_at catalog q) (determined catalog q) (claim q).order (right_order falls on)
pairs_follow catalog op p q = false

-- both inputs are known, and the operator names columns of them
pub record AreJoined (catalog : ℕ → Relation) (k : rust_known.KnownColumns) (op : Binary) (p q : Plan) : Type 0 where
  pub left : IsKnownOf catalog k p
  pub right : IsKnownOf catalog k q
  pub named : both_within (width catalog p) (width catalog q) op ≡ true

-- the input columns that those of a projection's key are copies of determine a key that the input claims
abbrev pub projected_below : (ℕ → Relation) → Unary → Plan → List ℕ → Bool
projected_below catalog (project es) p key =
    list_any (list_all (determined catalog p (sources_in (length es) (entries_kept (map kept_column es)) (set_of key)))) (claim p).keys
projected_below catalog op p key = false

-- a key of columns of the output of an operator over a known input
pub record IsKeyOver (catalog : ℕ → Relation) (k : rust_known.KnownColumns) (op : Unary) (p : Plan) (key : List ℕ) : Type 0 where
  pub known : IsKnownOf catalog k p
  pub key_below : all_below (unary_width op (width catalog p)) key ≡ true

-- a limit over this input takes known rows
abbrev pub first_known_below : (ℕ → Relation) → Unary → Plan → Bool
first_known_below catalog (limit m) p = is_one (size p) && is_total_derived catalog p
first_known_below catalog op p = true

-- What equal and fixed columns say of the rows of a node, one by one; and the laws: it holds of what an operator makes, where it holds of the operator's inputs.
use Rattle.std.specs.Prelude.{◌≡◌, ℕ, ◌==◌, nat_lt, Bool, true, ◌&&◌, List, length, Some}
use Rattle.std.specs.List.{list_all, AllByRecursion}
use Rattle.vx_rows_values.specs.declared.order.OrderEntry.{OrderEntry}
use Rattle.vx_rows_values.specs.Values.{Val, Row, value_at}
use Rattle.vx_catalog_relations.specs.Relation.{Relation}
use Rattle.vx_catalog_relations.specs.Catalog.{relation_at}
use Rattle.vx_plan_nodes.specs.Plan.{Claim, Size, Unary, Binary, union, join, semi_join, ExchangeKind, Plan, scan, unary, binary, exchange}
use Rattle.vx_plan_nodes.specs.Types.{width}
use Rattle.vx_plan_nodes.specs.Typed.{Scope, typed}
use Rattle.vx_plan_nodes.specs.Serial.{unary_rows, binary_rows, rows, serial}
use Rattle.vx_plan_facts.specs.Equal.{Equality, equal_at}
use Rattle.vx_plan_facts.specs.Fixed.{Values, has_value, fixed_at}

-- equal columns have equal values in the row
abbrev pub HasEqual : Equality → Row → Type 0
HasEqual e row = (a b : ℕ) → e a b ≡ true → value_at row a ≡ value_at row b

-- a fixed column has its value in the row; one of two values would have both, and no row has
abbrev pub HasFixed : Values → Row → Type 0
HasFixed f row = (c : ℕ) (v : Val) → has_value (f c) v ≡ true → value_at row c ≡ v

-- the row has so many values, equal ones in equal columns, and in fixed columns theirs. Columns past the row's end count too: there the number 0 stands
pub record MeetsFacts (w : ℕ) (e : Equality) (f : Values) (row : Row) : Type 0 where
  pub wide : length row ≡ w
  pub alike : HasEqual e row
  pub fixed : HasFixed f row

-- the facts of a node
abbrev pub MeetsAt : (ℕ → Relation) → Plan → Row → Type 0
MeetsAt catalog p row = MeetsFacts (width catalog p) (equal_at catalog p) (fixed_at catalog p) row

-- each row of the list meets them
abbrev pub EachMeets : (ℕ → Relation) → Plan → List Row → Type 0
EachMeets catalog p xs = AllByRecursion (MeetsAt catalog p) xs

-- each row has so many values
abbrev pub EachWide : ℕ → List Row → Type 0
EachWide w xs = AllByRecursion (λ row. length row ≡ w) xs

-- of two inputs v and w columns wide: those of a union are equally wide, and a join compares columns that its left input has. Left rows that are kept say nothing of the right ones
abbrev pub inputs_fit : (v w : ℕ) → Binary → Bool
inputs_fit v w union = v == w
inputs_fit v w (join method on) = list_all (λ p. nat_lt p.0 v) on
inputs_fit v w (semi_join matched on conditions) = true

-- the same at every node; it is a part of being typed
abbrev pub all_inputs_fit : (ℕ → Relation) → Plan → Bool
all_inputs_fit catalog (scan n c r m z) = true
all_inputs_fit catalog (unary n c op p) = all_inputs_fit catalog p
all_inputs_fit catalog (binary n c op p q) = all_inputs_fit catalog p && (all_inputs_fit catalog q && inputs_fit (width catalog p) (width catalog q) op)
all_inputs_fit catalog (exchange n c k m p) = all_inputs_fit catalog p

-- in a typed plan inputs fit
abbrev pub TypedInputsFit : Type 0
TypedInputsFit = (s : Scope) (p : Plan) → typed s p ≡ true → all_inputs_fit (relation_at s.catalog) p ≡ true

-- the rows that a scan reads
abbrev pub ScanMeets : Type 0
ScanMeets =
    (catalog : ℕ → Relation) (n : ℕ) (c : Claim) (r : ℕ) (m : Bool) (z : Size) (xs : List Row)
    → EachWide (length (catalog r).types) xs → EachMeets catalog (scan n c r m z) xs

-- the rows that an operator makes of rows that meet the facts of its input
abbrev pub UnaryMeets : Type 0
UnaryMeets =
    (catalog : ℕ → Relation) (n : ℕ) (c : Claim) (op : Unary) (p : Plan) (xs ys : List Row)
    → unary_rows op xs ≡ Some ys → EachMeets catalog p xs → EachMeets catalog (unary n c op p) ys

-- those that an operator makes of rows of both inputs
abbrev pub BinaryMeets : Type 0
BinaryMeets =
    (catalog : ℕ → Relation) (n : ℕ) (c : Claim) (op : Binary) (p q : Plan) → inputs_fit (width catalog p) (width catalog q) op ≡ true
    → (xs ys : List Row) → EachMeets catalog p xs → EachMeets catalog q ys → EachMeets catalog (binary n c op p q) (binary_rows op xs ys)

-- the rows that an exchange passes on
abbrev pub ExchangeMeets : Type 0
ExchangeMeets =
    (catalog : ℕ → Relation) (n : ℕ) (c : Claim) (k : ExchangeKind) (m : List OrderEntry) (p : Plan) (xs : List Row)
    → EachMeets catalog p xs → EachMeets catalog (exchange n c k m p) xs

-- the serial rows of every plan, over relations whose rows are as wide as the catalog says
abbrev pub SerialMeets : Type 0
SerialMeets =
    (catalog : ℕ → Relation) (db : ℕ → List Row) → ((r : ℕ) → EachWide (length (catalog r).types) (db r))
    → (p : Plan) (xs : List Row) → all_inputs_fit catalog p ≡ true → serial db p ≡ rows xs → EachMeets catalog p xs

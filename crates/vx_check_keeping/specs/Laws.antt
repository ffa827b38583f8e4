-- What holds of two plans of the same operators, whose claims differ.
use Rattle.std.specs.Prelude.{◌≡◌, ℕ, true, List}
use Rattle.vx_rows_values.specs.declared.order.OrderEntry.{OrderEntry}
use Rattle.vx_rows_values.specs.Order.{order_columns}
use Rattle.vx_catalog_relations.specs.Relation.{Relation}
use Rattle.vx_plan_nodes.specs.Plan.{Plan, size}
use Rattle.vx_plan_nodes.specs.Types.{width}
use Rattle.vx_plan_facts.specs.Equal.{Equality, equal_at}
use Rattle.vx_plan_facts.specs.Fixed.{fixed_at}
use Rattle.vx_plan_facts.specs.Determined.{Columns, determined}
use Rattle.vx_plan_facts.specs.DeterminedFacts.{WithinFirst}
use Rattle.vx_plan_facts.specs.Following.{order_follows}
use Rattle.vx_plan_facts.specs.Naming.{IsTypedOver}
use Rattle.vx_catalog_relations.specs.Catalog.{relation_at, all_below, IsCatalog}
use Rattle.vx_check_shown.specs.Strongest.{IsStrongestDerived}
use Rattle.vx_check_keeping.specs.Keeping.{SameNodes, KeysTell, Tells, IsShownDerived}
use Rattle.vx_plan_nodes.specs.Typed.{Scope, typed}
use Rattle.vx_check_options.specs.Laws.{AtEach}
use Rattle.vx_check_rules.specs.Derived.{allowed_derived}

-- each column is equal to itself, equal ones are so either way, and what is equal to an equal one is equal
pub record IsEquivalence (e : Equality) : Type 0 where
  pub same : (a : ℕ) → e a a ≡ true
  pub swap : (a b : ℕ) → e a b ≡ true → e b a ≡ true
  pub joins : (a b c : ℕ) → e a b ≡ true → e b c ≡ true → e a c ≡ true

abbrev pub EqualIsEquivalence : Type 0
EqualIsEquivalence = (catalog : ℕ → Relation) (p : Plan) → IsEquivalence (equal_at catalog p)

-- what is equal, fixed, how many columns and workers there are does not depend on claims
abbrev pub SameFacts : Type 0
SameFacts = (catalog : ℕ → Relation) (e f : Plan) → SameNodes e f
    → (width catalog f ≡ width catalog e) × (equal_at catalog f ≡ equal_at catalog e) × (fixed_at catalog f ≡ fixed_at catalog e) × (size f ≡ size e)

-- where the keys of the second plan say what those of the first say, the same columns determine more
abbrev pub MoreDetermined : Type 0
MoreDetermined = (catalog : List Relation) (e f : Plan) → IsTypedOver catalog e → IsTypedOver catalog f → SameNodes e f → KeysTell (relation_at catalog) f e
    → (s : Columns) → WithinFirst (width (relation_at catalog) e) (determined (relation_at catalog) e s) (determined (relation_at catalog) f s)

-- under keys that say more each order follows that followed; and orders follow along
pub record OrdersFollow : Type 0 where
  pub more : (catalog : List Relation) (e f : Plan) → IsTypedOver catalog e → IsTypedOver catalog f → SameNodes e f → KeysTell (relation_at catalog) f e
      → (given order : List OrderEntry) → all_below (width (relation_at catalog) e) (order_columns given) ≡ true → all_below (width (relation_at catalog) e) (order_columns order) ≡ true
      → order_follows (equal_at (relation_at catalog) e) (determined (relation_at catalog) e) given order ≡ true
      → order_follows (equal_at (relation_at catalog) f) (determined (relation_at catalog) f) given order ≡ true
  pub along : (catalog : ℕ → Relation) (p : Plan) (given mid order : List OrderEntry) → order_follows (equal_at catalog p) (determined catalog p) given mid ≡ true
      → order_follows (equal_at catalog p) (determined catalog p) mid order ≡ true → order_follows (equal_at catalog p) (determined catalog p) given order ≡ true

-- where the first plan passes the second table, the second claims what tells the most that is shown, all of it shown, and its keys say what the first one's say:
-- the second passes too, and its claims tell the first one's
abbrev pub KeepsTold : Type 0
KeepsTold = (s : Scope) (e f : Plan) → IsCatalog s.catalog → typed s e ≡ true → typed s f ≡ true → SameNodes e f → allowed_derived (relation_at s.catalog) e ≡ true
    → AtEach (IsStrongestDerived (relation_at s.catalog)) f → AtEach (IsShownDerived (relation_at s.catalog)) f → KeysTell (relation_at s.catalog) f e
    → (allowed_derived (relation_at s.catalog) f ≡ true) × Tells (relation_at s.catalog) f e

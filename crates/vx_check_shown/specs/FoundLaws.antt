-- What claims that are found by the second table are good for: they name what there is, and tell the most.
use Rattle.std.specs.Prelude.{ℕ, ◌≡◌, ◌≤◌, true, length}
use Rattle.vx_catalog_relations.specs.Relation.{Relation}
use Rattle.vx_catalog_relations.specs.Catalog.{relation_at, IsCatalog}
use Rattle.vx_plan_nodes.specs.Plan.{Plan, claim}
use Rattle.vx_plan_nodes.specs.Typed.{Scope, typed}
use Rattle.vx_check_options.specs.Placed.{bare}
use Rattle.vx_check_options.specs.Laws.{AtEach}
use Rattle.vx_check_shown.specs.Found.{IsKeyed, found}
use Rattle.vx_check_shown.specs.Strongest.{HasAllKeysDerived, IsStrongestDerived}

-- a node claims 16 keys at most
abbrev pub HasFewKeys : Plan → Type 0
HasFewKeys p = length (claim p).keys ≤ 16

-- keys that are found are typed, at the same nodes, and are all where the nodes claimed few
pub record KeyedLaw (s : Scope) (p x : Plan) : Type 0 where
  pub typed : typed s x ≡ true
  pub same : bare x ≡ bare p
  pub all : AtEach HasFewKeys p → AtEach (HasAllKeysDerived (relation_at s.catalog)) x

abbrev pub KeyedIsGood : Type 0
KeyedIsGood = (s : Scope) (p x : Plan) → IsCatalog s.catalog → typed s p ≡ true → IsKeyed (relation_at s.catalog) p x → KeyedLaw s p x

-- parts and orders that are found are typed, at the same nodes, and where all keys are claimed, the claims tell the most
pub record FoundLaw (s : Scope) (p : Plan) : Type 0 where
  pub typed : typed s (found (relation_at s.catalog) p) ≡ true
  pub same : bare (found (relation_at s.catalog) p) ≡ bare p
  pub strongest : AtEach (HasAllKeysDerived (relation_at s.catalog)) p → AtEach (IsStrongestDerived (relation_at s.catalog)) (found (relation_at s.catalog) p)

abbrev pub FoundIsGood : Type 0
FoundIsGood = (s : Scope) (p : Plan) → IsCatalog s.catalog → typed s p ≡ true → FoundLaw s p

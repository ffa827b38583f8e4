-- Two plans of the same operators, of which the one claims what tells the most: what its claims say of the other one's.
use Rattle.std.specs.Prelude.{◌≡◌, ℕ, Bool, true, false, ◌||◌, List}
use Rattle.std.specs.List.{list_all}
use Rattle.vx_catalog_relations.specs.Relation.{Relation}
use Rattle.vx_plan_nodes.specs.Plan.{Plan, scan, unary, binary, exchange, claim, size, is_one}
use Rattle.vx_plan_nodes.specs.Types.{width}
use Rattle.vx_plan_facts.specs.Equal.{Equality, equal_at}
use Rattle.vx_plan_facts.specs.Determined.{determined}
use Rattle.vx_plan_facts.specs.Following.{order_follows}
use Rattle.vx_check_rules.specs.Rules.{covers, orders, shows, sizes_match, unless_one}
use Rattle.vx_check_rules.specs.Derived.{part_derived, order_derived, order_given_derived, inputs_match_derived, keys_shown_derived}
use Rattle.vx_check_shown.specs.PartLaws.{told}
use Rattle.vx_check_shown.specs.Standing.{named_first}

-- ---- claims that are shown, at one node

-- the claim is shown, where the inputs are as the operator asks
pub record IsShownDerived (catalog : ℕ → Relation) (p : Plan) : Type 0 where
  pub part : is_one (size p) ≡ false → sizes_match p ≡ true → inputs_match_derived catalog p ≡ true
      → (unless_one (shows catalog p) (claim p).part || part_derived catalog p (claim p).part) ≡ true
  pub order : order_given_derived catalog p ≡ true → (orders catalog p (claim p).order || order_derived catalog p (claim p).order) ≡ true
  pub keys : keys_shown_derived catalog p ≡ true

-- ---- two plans

-- the same nodes, whatever they claim
abbrev pub SameNodes : Plan → Plan → Type 0
SameNodes (scan n c r m z) (scan i d s o y) = (n ≡ i) × (r ≡ s) × (m ≡ o) × (z ≡ y)
SameNodes (unary n c op p) (unary i d other q) = (n ≡ i) × (op ≡ other) × SameNodes p q
SameNodes (binary n c op p q) (binary i d other s t) = (n ≡ i) × (op ≡ other) × SameNodes p s × SameNodes q t
SameNodes (exchange n c k m p) (exchange i d l o q) = (n ≡ i) × (k ≡ l) × (m ≡ o) × SameNodes p q
SameNodes _ _ = ⊥

-- at each node of both
abbrev pub AtBoth : (Plan → Plan → Type 0) → Plan → Plan → Type 0
AtBoth P (scan n c r m z) (scan i d s o y) = P (scan n c r m z) (scan i d s o y)
AtBoth P (unary n c op p) (unary i d other q) = P (unary n c op p) (unary i d other q) × AtBoth P p q
AtBoth P (binary n c op p q) (binary i d other s t) = P (binary n c op p q) (binary i d other s t) × AtBoth P p s × AtBoth P q t
AtBoth P (exchange n c k m p) (exchange i d l o q) = P (exchange n c k m p) (exchange i d l o q) × AtBoth P p q
AtBoth P _ _ = ⊥

-- each key of the one list has a part in the other, by its first equal columns
abbrev pub keys_tell : ℕ → Equality → (keys others : List (List ℕ)) → Bool
keys_tell w e keys others = list_all (λ x. covers keys (named_first w e x)) others

-- the keys of the first plan say what those of the second say
abbrev pub KeysTellHere : (ℕ → Relation) → Plan → Plan → Type 0
KeysTellHere catalog f e = keys_tell (width catalog f) (equal_at catalog f) (claim f).keys (claim e).keys ≡ true

abbrev pub KeysTell : (ℕ → Relation) → Plan → Plan → Type 0
KeysTell catalog f e = AtBoth (KeysTellHere catalog) f e

-- and so do its parts at nodes of several workers, and its orders
pub record TellsHere (catalog : ℕ → Relation) (f e : Plan) : Type 0 where
  pub part : is_one (size f) ≡ false → told (equal_at catalog f) (claim f).part (claim e).part ≡ true
  pub order : order_follows (equal_at catalog f) (determined catalog f) (claim f).order (claim e).order ≡ true
  pub keys : KeysTellHere catalog f e

abbrev pub Tells : (ℕ → Relation) → Plan → Plan → Type 0
Tells catalog f e = AtBoth (TellsHere catalog) f e

-- That the part which a node shows of those that its inputs claim is shown, tells the most, and does not depend on what is claimed elsewhere.
use Rattle.std.specs.Prelude.{◌≡◌, ℕ, Bool, true, false, not, ◌&&◌, ◌||◌, List}
use Rattle.vx_catalog_relations.specs.Relation.{Relation}
use Rattle.vx_catalog_relations.specs.Catalog.{relation_at}
use Rattle.vx_plan_nodes.specs.Types.{width, types_of, part_columns}
use Rattle.vx_plan_nodes.specs.Typed.{Scope, are_columns, is_part, typed}
use Rattle.vx_plan_nodes.specs.Plan.{Part, one, any, Plan, scan, unary, binary, exchange, claim, size, is_one}
use Rattle.vx_plan_facts.specs.Equal.{Equality, equal_at}
use Rattle.vx_plan_facts.specs.Naming.{IsTypedOver}
use Rattle.vx_check_rules.specs.Rules.{part_gives, sizes_match, shows, unless_one}
use Rattle.vx_check_rules.specs.Derived.{part_matches, inputs_match_derived, part_derived}
use Rattle.vx_check_options.specs.Placed.{bare}
use Rattle.vx_check_shown.specs.ShownPart.{shown_part}

-- the parts that a node's inputs claim; any of one that it does not have
abbrev pub left_part : Plan → Part
left_part (scan n c r m z) = any
left_part (unary n c op p) = (claim p).part
left_part (binary n c op p q) = (claim p).part
left_part (exchange n c k m p) = (claim p).part

abbrev pub right_part : Plan → Part
right_part (binary n c op p q) = (claim q).part
right_part p = any

-- the part that the node shows of these
abbrev pub shown_here : (ℕ → Relation) → Plan → Part
shown_here catalog p = shown_part catalog p (left_part p) (right_part p)

-- one worker has all rows
abbrev pub is_of_one : Part → Bool
is_of_one one = true
is_of_one q = false

-- no input of a node with several workers claims to be on one of them; of an exchange that is not asked
abbrev pub inputs_spread : Plan → Bool
inputs_spread (scan n c r m z) = true
inputs_spread (unary n c op p) = not (is_of_one (claim p).part)
inputs_spread (binary n c op p q) = not (is_of_one (claim p).part) && not (is_of_one (claim q).part)
inputs_spread (exchange n c k m p) = true

-- a part passes the test of a node with several workers, by either table
abbrev pub passes : (ℕ → Relation) → Plan → Part → Bool
passes catalog p q = unless_one (shows catalog p) q || part_derived catalog p q

-- the part tells the other one: it gives it, or is routed alike on equal columns
abbrev pub told : Equality → Part → Part → Bool
told e q x = part_gives q x || part_matches e q x

-- where the inputs fit, the part is shown
abbrev pub PartShown : Type 0
PartShown = (catalog : List Relation) (p : Plan) → IsTypedOver catalog p → is_one (size p) ≡ false → sizes_match p ≡ true → inputs_match_derived (relation_at catalog) p ≡ true → inputs_spread p ≡ true
    → passes (relation_at catalog) p (shown_here (relation_at catalog) p) ≡ true

-- it tells each part that is, if this names columns of the node, none twice
abbrev pub PartTellsTheMost : Type 0
PartTellsTheMost = (catalog : List Relation) (p : Plan) → IsTypedOver catalog p → is_one (size p) ≡ false → sizes_match p ≡ true
    → (q : Part) → are_columns (width (relation_at catalog) p) (part_columns q) ≡ true → passes (relation_at catalog) p q ≡ true
    → told (equal_at (relation_at catalog) p) (shown_here (relation_at catalog) p) q ≡ true

-- plans of the same nodes show the same of the same parts
abbrev pub PartIsClaimless : Type 0
PartIsClaimless = (catalog : ℕ → Relation) (p q : Plan) → bare p ≡ bare q → (x y : Part) → shown_part catalog p x y ≡ shown_part catalog q x y

-- parts that may be claimed of the inputs; those of missing inputs are not asked
abbrev pub are_parts : Scope → Plan → (left right : Part) → Bool
are_parts s (scan n c r m z) x y = true
are_parts s (unary n c op p) x y = is_part s (types_of (relation_at s.catalog) p) x
are_parts s (binary n c op p q) x y = is_part s (types_of (relation_at s.catalog) p) x && is_part s (types_of (relation_at s.catalog) q) y
are_parts s (exchange n c k m p) x y = true

-- of such parts the node shows one that it may claim
abbrev pub PartIsTyped : Type 0
PartIsTyped = (s : Scope) (p : Plan) → typed s p ≡ true → (x y : Part) → are_parts s p x y ≡ true → is_part s (types_of (relation_at s.catalog) p) (shown_part (relation_at s.catalog) p x y) ≡ true

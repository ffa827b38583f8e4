-- What the options of nodes are good for: no accepted claims are left out, and those that are placed by them are accepted and tell the most.
use Rattle.std.specs.Prelude.{ℕ, ◌≡◌, ◌≤◌, ◌⊎◌, nat_lt, Bool, true, false, ◌&&◌, ◌||◌, List, [], ◌∷◌, length, None}
use Rattle.std.specs.List.{list_all, list_any}
use Rattle.vx_rows_values.specs.declared.order.OrderEntry.{OrderEntry}
use Rattle.vx_catalog_relations.specs.Relation.{Relation}
use Rattle.vx_catalog_relations.specs.Catalog.{relation_at}
use Rattle.vx_plan_nodes.specs.Plan.{Route, Part, one, any, all, routed, Claim, Plan, scan, unary, binary, exchange, claim, size, is_one}
use Rattle.vx_plan_nodes.specs.Typed.{Scope, typed}
use Rattle.vx_check_rules.specs.Rules.{part_gives, is_front, allowed}
use Rattle.vx_check_rules.specs.Behaviour.{behaviour, shown_part, shown_order}
use Rattle.vx_check_options.specs.Options.{OrderChoices, has_entry, parts_at, is_within, places_at, same_part, first_unfit}
use Rattle.vx_rows_values.specs.Limits.{max_columns}

-- ---- claims beside others

-- the second part tells as much as the first: one worker that has all rows tells every part
abbrev pub keeps_part : Part → Part → Bool
keeps_part p one = true
keeps_part one q = true
keeps_part any q = true
keeps_part all q = part_gives q all
keeps_part (routed r cols) q = part_gives q (routed r cols)

-- the second claim keeps the part and the order of the first
abbrev pub KeepsClaim : Claim → Claim → Type 0
KeepsClaim c d = (keeps_part c.part d.part ≡ true) × (is_front c.order d.order ≡ true)

-- the second plan has the nodes of the first, and each of its claims keeps the one there
abbrev pub Keeps : Plan → Plan → Type 0
Keeps (scan n c r m z) q = (d : Claim) × (q ≡ scan n d r m z) × KeepsClaim c d
Keeps (unary n c op p) q = (d : Claim) × (p' : Plan) × (q ≡ unary n d op p') × KeepsClaim c d × Keeps p p'
Keeps (binary n c op p p2) q = (d : Claim) × (p' : Plan) × (q' : Plan) × (q ≡ binary n d op p' q') × KeepsClaim c d × Keeps p p' × Keeps p2 q'
Keeps (exchange n c k m p) q = (d : Claim) × (p' : Plan) × (q ≡ exchange n d k m p') × KeepsClaim c d × Keeps p p'

-- one of the parts is this one, or tells more
abbrev pub is_told : List Part → Part → Bool
is_told parts q = list_any (λ x. part_gives x q) parts

-- each entry is one of those that may stand at its place
abbrev pub may_begin : List OrderEntry → OrderChoices → Bool
may_begin [] places = true
may_begin (e ∷ es) [] = false
may_begin (e ∷ es) (s ∷ places) = has_entry s e && may_begin es places

-- one of these parts, or any where there is none
abbrev pub is_option : List Part → Part → Bool
is_option [] q = part_gives q any && part_gives any q
is_option (x ∷ xs) q = list_any (same_part q) (x ∷ xs)

-- ---- the laws

-- where claims that keep those of a plan are accepted, no node is unfit, and what they claim at the top is among the options. The bound on parts has to cut none off; it may where the claims are those of the plan itself
abbrev pub OnlyOptions : Type 0
OnlyOptions = (s : Scope) (p q : Plan) → Keeps p q → (is_within (relation_at s.catalog) p ≡ true) ⊎ (q ≡ p) → typed s q ≡ true → allowed (relation_at s.catalog) q ≡ true
    → (first_unfit (relation_at s.catalog) p ≡ None) × ((is_one (size p) || is_told (parts_at (relation_at s.catalog) p) (claim q).part) ≡ true)
    × (may_begin (claim q).order (places_at (relation_at s.catalog) p) ≡ true)

-- at a node, over the claims of its inputs: one worker claims all rows; any part is claimed only where no routed one is shown, of columns that an output can have;
-- and no longer order is shown
pub record IsStrongest (catalog : ℕ → Relation) (p : Plan) : Type 0 where
  pub alone : is_one (size p) ≡ true → (claim p).part ≡ one
  pub routed_first : is_one (size p) ≡ false → (claim p).part ≡ any → (r : Route) (cols : List ℕ) → list_all (λ c. nat_lt c max_columns) cols ≡ true
      → shown_part (behaviour catalog p) (routed r cols) ≡ false
  pub longest : (order : List OrderEntry) → shown_order (behaviour catalog p) order ≡ true → length order ≤ length (claim p).order

-- at every node
abbrev pub AtEach : (Plan → Type 0) → Plan → Type 0
AtEach P (scan n c r m z) = P (scan n c r m z)
AtEach P (unary n c op p) = AtEach P p × P (unary n c op p)
AtEach P (binary n c op p q) = AtEach P p × AtEach P q × P (binary n c op p q)
AtEach P (exchange n c k m p) = AtEach P p × P (exchange n c k m p)

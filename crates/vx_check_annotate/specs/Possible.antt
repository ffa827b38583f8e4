-- The only directions that accepted claims could ask of joins by merging.
use Rattle.std.specs.Prelude.{ℕ, Bool, false, not, ◌&&◌, List, [], ◌∷◌, drop}
use Rattle.vx_rows_values.specs.declared.order.OrderEntry.{OrderEntry}
use Rattle.vx_catalog_relations.specs.Relation.{Relation}
use Rattle.vx_catalog_relations.specs.Catalog.{relation_at}
use Rattle.vx_plan_nodes.specs.Plan.{Binary, Plan, scan, unary, binary, exchange}
use Rattle.vx_plan_nodes.specs.Names.{TypedPlanView}
use Rattle.vx_check_options.specs.Options.{OrderChoices, has_entry, places_at}
use Rattle.vx_check_directions.specs.Turned.{pairs_of, in_falls, Choice, turned_outline}

abbrev pub rising_entry : ℕ → OrderEntry
rising_entry c = record { column = c; falling = false }

-- the entry may stand at the first of these places
abbrev pub may_stand : OrderChoices → OrderEntry → Bool
may_stand [] e = false
may_stand (s ∷ places) e = has_entry s e

-- place by place, a pair falls where its columns cannot both rise
abbrev pub possible_falls : (lefts rights : OrderChoices) → List (ℕ × ℕ) → List Bool
possible_falls lefts rights [] = []
possible_falls lefts rights (x ∷ on) =
    not (may_stand lefts (rising_entry x.0) && may_stand rights (rising_entry x.1)) ∷ possible_falls (drop 1 lefts) (drop 1 rights) on

-- the operator over inputs with these places, in the directions that these leave it
abbrev pub possible_operator : (lefts rights : OrderChoices) → Binary → Binary
possible_operator lefts rights op = in_falls (possible_falls lefts rights (pairs_of op)) op

-- the plan, from its inputs upwards
abbrev pub possible : (ℕ → Relation) → Plan → Plan
possible catalog (scan n c r m z) = scan n c r m z
possible catalog (unary n c op p) = unary n c op (possible catalog p)
possible catalog (binary n c op p q) =
    binary n c (possible_operator (places_at catalog (possible catalog p)) (places_at catalog (possible catalog q)) op) (possible catalog p) (possible catalog q)
possible catalog (exchange n c k m p) = exchange n c k m (possible catalog p)

-- it is the plan with these directions
abbrev pub possible_choice : (ℕ → Relation) → Choice
possible_choice catalog on p q = possible_falls (places_at catalog (possible catalog p)) (places_at catalog (possible catalog q)) on

-- the same of a typed plan
abbrev pub possible_view : TypedPlanView → TypedPlanView
possible_view p = record { names = p.names; total = p.total; derives = p.derives; root = turned_outline (possible_choice (relation_at p.names.catalog)) p.root }

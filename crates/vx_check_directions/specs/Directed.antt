-- The directions in which joins by merging compare: those that the claimed orders of their inputs ask for.
use Rattle.std.specs.Prelude.{◌≡◌, ℕ, Bool, true, false, List, [], ◌∷◌, map, drop, Option, Some, None, Result, Ok, Err}
use Rattle.vx_rows_values.specs.declared.order.OrderEntry.{OrderEntry}
use Rattle.vx_catalog_relations.specs.Relation.{Relation}
use Rattle.vx_catalog_relations.specs.Catalog.{relation_at}
use Rattle.vx_plan_nodes.specs.Plan.{Plan, claim}
use Rattle.vx_plan_nodes.specs.Names.{TypedPlanView}
use Rattle.vx_plan_nodes.specs.Typed.{Scope, typed}
use Rattle.vx_plan_facts.specs.Determined.{Columns, determined}
use Rattle.vx_plan_facts.specs.Following.{set_of, short}
use Rattle.vx_check_rules.specs.Tables.{refusal_by}
use Rattle.vx_check_directions.specs.Turned.{turned, turned_outline, DifferInDirections}

-- ---- one input

-- the direction of the first entry; rising where there is none
abbrev pub first_falls : List OrderEntry → Bool
first_falls [] = false
first_falls (e ∷ order) = e.falling

-- a column asks for the direction of the next entry of the input's order; one that is determined has no entry, and asks for none
abbrev pub ask : (is_determined : Bool) → List OrderEntry → Option Bool
ask true order = None
ask false order = Some (first_falls order)

-- what is left of the order behind it
abbrev pub behind : (is_determined : Bool) → List OrderEntry → List OrderEntry
behind true order = order
behind false order = drop 1 order

-- what each of these columns asks for, after those before it
abbrev pub asks_after : (Columns → Columns) → (before : List ℕ) → List OrderEntry → List ℕ → List (Option Bool)
asks_after det before order [] = []
asks_after det before order (c ∷ cols) = ask (det (set_of before) c) order ∷ asks_after det (c ∷ before) (behind (det (set_of before) c) order) cols

-- nothing is known of columns
abbrev pub nothing : Columns → Columns
nothing s c = false

-- what the columns of a set determine at a node: for a plan that asks for what is known of columns, and for one that does not
abbrev pub determined_by : (derives : Bool) → (ℕ → Relation) → Plan → Columns → Columns
determined_by false catalog p = nothing
determined_by true catalog p = determined catalog p

-- what the order that a node claims asks for these columns; entries whose columns earlier ones determine ask for nothing
abbrev pub asks : (derives : Bool) → (ℕ → Relation) → Plan → List ℕ → List (Option Bool)
asks derives catalog p cols = asks_after (determined_by derives catalog p) [] (short (determined_by derives catalog p) (claim p).order) cols

-- ---- both inputs

-- the left column's direction, or else the right one's; a pair for which neither asks rises
abbrev pub agreed_on : Option Bool → Option Bool → Bool
agreed_on (Some f) other = f
agreed_on None (Some f) = f
agreed_on None None = false

abbrev pub agreed : List (Option Bool) → List (Option Bool) → List Bool
agreed (a ∷ lefts) (b ∷ rights) = agreed_on a b ∷ agreed lefts rights
agreed _ _ = []

-- the directions that two inputs ask for, of each pair
abbrev pub falls_of : (derives : Bool) → (ℕ → Relation) → List (ℕ × ℕ) → Plan → Plan → List Bool
falls_of derives catalog on p q = agreed (asks derives catalog p (map (λ x. x.0) on)) (asks derives catalog q (map (λ x. x.1) on))

-- ---- plans

-- the plan whose joins by merging compare in the directions that the claims of their inputs ask for
abbrev pub directed : (derives : Bool) → (ℕ → Relation) → Plan → Plan
directed derives catalog p = turned (falls_of derives catalog) p

-- the same of a typed plan, with its names
abbrev pub directed_view : TypedPlanView → TypedPlanView
directed_view p = record { names = p.names; total = p.total; derives = p.derives; root = turned_outline (falls_of p.derives (relation_at p.names.catalog)) p.root }

-- of a plan, if there is one
abbrev pub with_directions : {E : Type 0} → Result TypedPlanView E → Result TypedPlanView E
with_directions (Ok p) = Ok (directed_view p)
with_directions (Err e) = Err e

-- ---- the law

-- whatever directions the joins by merging of a plan are given: if a rule table accepts the plan so, it accepts it with those that its claims ask for
abbrev pub DirectedIsAccepted : Type 0
DirectedIsAccepted = (derives : Bool) (s : Scope) (total : Bool) (p q : Plan) → DifferInDirections p q → typed s q ≡ true
    → refusal_by derives (relation_at s.catalog) total q ≡ None → refusal_by derives (relation_at s.catalog) total (directed derives (relation_at s.catalog) p) ≡ None

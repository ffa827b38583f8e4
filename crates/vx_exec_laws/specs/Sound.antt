-- The theorems on the rule table: an allowed plan's claims hold in every run.
use Rattle.std.specs.Prelude.{◌≡◌, ℕ, ◌<◌, Bool, true, List, IsSome, ◌⊎◌, false}
use Rattle.vx_rows_values.specs.Values.{Row}
use Rattle.vx_plan_nodes.specs.Plan.{scan, binary, exchange, Plan, unary, size, Claim, Unary}
use Rattle.vx_catalog_relations.specs.Relation.{Relation}
use Rattle.vx_plan_nodes.specs.Types.{well_formed}
use Rattle.vx_plan_nodes.specs.Routes.{Routing}
use Rattle.vx_plan_nodes.specs.Streams.{Streams, workers}
use Rattle.vx_plan_nodes.specs.Runs.{Runs}
use Rattle.vx_check_rules.specs.Rules.{allowed, root_allowed}
use Rattle.vx_plan_nodes.specs.Serial.{rows, serial, unary_rows, HasLargeInput, IsTooLong}
use Rattle.vx_check_rules.specs.Claims.{HoldsAt, Given, Delivers}
use Rattle.vx_plan_nodes.specs.Phases.{is_open}

-- the theorem, for the top of every plan
abbrev pub Sound : Type 0
Sound =
    (catalog : ℕ → Relation) (db : ℕ → List Row) (sizes : ℕ → ℕ) (goes : Routing) → Given catalog db sizes goes
    → (p : Plan) (s : Streams) → well_formed catalog p ≡ true → allowed catalog p ≡ true → Runs db sizes goes p s → HoldsAt db sizes goes p s

-- in a run, the claim of every node of the plan holds of the node's streams
abbrev pub HoldsThroughout : (db : ℕ → List Row) (sizes : ℕ → ℕ) (goes : Routing) (p : Plan) (s : Streams) → Runs db sizes goes p s → Type 0
HoldsThroughout db sizes goes (scan n c r m z) s run = HoldsAt db sizes goes (scan n c r m z) s
HoldsThroughout db sizes goes (unary n c op p) s run = HoldsThroughout db sizes goes p run.0 run.1 × HoldsAt db sizes goes (unary n c op p) s
HoldsThroughout db sizes goes (binary n c op p q) s run =
    HoldsThroughout db sizes goes p run.0 run.2 × HoldsThroughout db sizes goes q run.1 run.3 × HoldsAt db sizes goes (binary n c op p q) s
HoldsThroughout db sizes goes (exchange n c k m p) s run = HoldsThroughout db sizes goes p run.0 run.1 × HoldsAt db sizes goes (exchange n c k m p) s

-- in every run of an allowed plan that is well formed, from the premises `Given`, every node's claim holds
abbrev pub SoundThroughout : Type 0
SoundThroughout =
    (catalog : ℕ → Relation) (db : ℕ → List Row) (sizes : ℕ → ℕ) (goes : Routing) → Given catalog db sizes goes
    → (p : Plan) (s : Streams) → well_formed catalog p ≡ true → allowed catalog p ≡ true → (run : Runs db sizes goes p s)
    → HoldsThroughout db sizes goes p s run

-- from the same premises: if the plan is not open and its root is allowed too, stream 0 of every run is delivered (`Delivers`)
abbrev pub SoundAtRoot : Type 0
SoundAtRoot =
    (catalog : ℕ → Relation) (db : ℕ → List Row) (sizes : ℕ → ℕ) (goes : Routing) → Given catalog db sizes goes
    → (is_total : Bool) (p : Plan) (s : Streams)
    → well_formed catalog p ≡ true → is_open p ≡ false → allowed catalog p ≡ true → root_allowed catalog is_total p ≡ true → Runs db sizes goes p s
    → Delivers db is_total p (s 0)

-- an operator over the streams of a run overflows at no worker, where the serial plan does not overflow at it; a partial only where some rows of one key
-- of its serial input have a sum outside 64 bits, or the input is too long
abbrev pub NoOverflow : Type 0
NoOverflow =
    (catalog : ℕ → Relation) (db : ℕ → List Row) (sizes : ℕ → ℕ) (goes : Routing) → Given catalog db sizes goes
    → (n : ℕ) (c : Claim) (op : Unary) (p : Plan) (u : Streams)
    → well_formed catalog (unary n c op p) ≡ true → allowed catalog (unary n c op p) ≡ true → Runs db sizes goes p u
    → (xs : List Row) → serial db (unary n c op p) ≡ rows xs
    → (w : ℕ) → w < workers sizes (size p) → IsSome (unary_rows op (u w)) ⊎ (HasLargeInput op (serial db p) ⊎ IsTooLong op (serial db p))

-- The theorems on the rule table with what is known of columns: an allowed plan's claims hold in every run.
use Rattle.std.specs.Prelude.{◌≡◌, ℕ, ◌<◌, Bool, true, false, ◌&&◌, List}
use Rattle.vx_rows_values.specs.Values.{Row}
use Rattle.vx_catalog_relations.specs.Relation.{Relation}
use Rattle.vx_plan_nodes.specs.Plan.{Plan, scan, unary, binary, exchange, size, size_eq}
use Rattle.vx_plan_nodes.specs.Types.{well_formed}
use Rattle.vx_plan_nodes.specs.Phases.{is_open}
use Rattle.vx_plan_nodes.specs.Routes.{Routing}
use Rattle.vx_plan_nodes.specs.Runs.{Runs}
use Rattle.vx_plan_nodes.specs.Streams.{Streams, workers}
use Rattle.vx_plan_facts.specs.RowFacts.{all_inputs_fit, EachMeets}
use Rattle.vx_check_rules.specs.Rules.{allowed, root_allowed}
use Rattle.vx_check_rules.specs.Derived.{allowed_derived, root_allowed_derived}
use Rattle.vx_check_rules.specs.Claims.{Given, Delivers}
use Rattle.vx_exec_laws.specs.Sound.{HoldsThroughout}

-- the inputs of each node that has two have one size (K1 at every node)
abbrev pub all_sizes_match : Plan → Bool
all_sizes_match (scan n c r m z) = true
all_sizes_match (unary n c op p) = all_sizes_match p
all_sizes_match (binary n c op p q) = all_sizes_match p && (all_sizes_match q && size_eq (size p) (size q))
all_sizes_match (exchange n c k m p) = all_sizes_match p

-- in every run the rows of each stream meet the facts of their node, whatever is claimed: past the last worker of an input a run says nothing, so the inputs
-- of each node have one size
abbrev pub StreamsMeet : Type 0
StreamsMeet =
    (catalog : ℕ → Relation) (db : ℕ → List Row) (sizes : ℕ → ℕ) (goes : Routing) → Given catalog db sizes goes
    → (p : Plan) (s : Streams) → all_sizes_match p ≡ true → all_inputs_fit catalog p ≡ true → Runs db sizes goes p s
    → (w : ℕ) → w < workers sizes (size p) → EachMeets catalog p (s w)

-- what the first rule table allows, this one does
abbrev pub AllowsMore : Type 0
AllowsMore =
    (catalog : ℕ → Relation) (p : Plan)
    → (allowed catalog p ≡ true → allowed_derived catalog p ≡ true)
    × ((is_total : Bool) → root_allowed catalog is_total p ≡ true → root_allowed_derived catalog is_total p ≡ true)

-- the theorem, for every node of an allowed plan
abbrev pub DerivedSound : Type 0
DerivedSound =
    (catalog : ℕ → Relation) (db : ℕ → List Row) (sizes : ℕ → ℕ) (goes : Routing) → Given catalog db sizes goes
    → (p : Plan) (s : Streams) → well_formed catalog p ≡ true → all_inputs_fit catalog p ≡ true → allowed_derived catalog p ≡ true
    → (run : Runs db sizes goes p s) → HoldsThroughout db sizes goes p s run

-- the theorem at the root
abbrev pub DerivedSoundAtRoot : Type 0
DerivedSoundAtRoot =
    (catalog : ℕ → Relation) (db : ℕ → List Row) (sizes : ℕ → ℕ) (goes : Routing) → Given catalog db sizes goes
    → (is_total : Bool) (p : Plan) (s : Streams)
    → well_formed catalog p ≡ true → all_inputs_fit catalog p ≡ true → is_open p ≡ false → allowed_derived catalog p ≡ true
    → root_allowed_derived catalog is_total p ≡ true → Runs db sizes goes p s → Delivers db is_total p (s 0)

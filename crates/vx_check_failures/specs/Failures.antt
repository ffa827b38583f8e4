-- All nodes at which a test fails, in post-order, each with the first of its tests that fails.
use Rattle.std.specs.Prelude.{ℕ, ◌++◌, Bool, List, [], ◌∷◌, Option, Some, None}
use Rattle.vx_catalog_relations.specs.Relation.{Relation}
use Rattle.vx_plan_nodes.specs.Plan.{Plan, scan, unary, binary, exchange, number}
use Rattle.vx_check_rules.specs.Refusal.{Rule, or_else, refused_at}
use Rattle.vx_check_rules.specs.Tables.{tests_by, root_tests_by}

-- the answer, as a list of one or none
abbrev pub listed : {X : Type 0} → Option X → List X
listed None = []
listed (Some x) = x ∷ []

-- a node as it stands, with its inputs' claims as they are: the first of its tests that fails
abbrev pub failures_at : (tests : Plan → List (Bool × Rule)) → Plan → List (ℕ × Rule)
failures_at tests p = listed (refused_at (number p) (tests p))

-- the failures of the plan's nodes, left before right, and a node after those below it
abbrev pub failures_in : (tests : Plan → List (Bool × Rule)) → Plan → List (ℕ × Rule)
failures_in tests (scan n c r m z) = failures_at tests (scan n c r m z)
failures_in tests (unary n c op p) = failures_in tests p ++ failures_at tests (unary n c op p)
failures_in tests (binary n c op p q) = failures_in tests p ++ (failures_in tests q ++ failures_at tests (binary n c op p q))
failures_in tests (exchange n c k m p) = failures_in tests p ++ failures_at tests (exchange n c k m p)

-- those below the node at the top
abbrev pub failures_below : (tests : Plan → List (Bool × Rule)) → Plan → List (ℕ × Rule)
failures_below tests (scan n c r m z) = []
failures_below tests (unary n c op p) = failures_in tests p
failures_below tests (binary n c op p q) = failures_in tests p ++ failures_in tests q
failures_below tests (exchange n c k m p) = failures_in tests p

-- all failures of a plan by such tests and by those of the root: at the root the tests of every node come first, then the root's own
abbrev pub failures_of_tests : (node_tests root_tests : Plan → List (Bool × Rule)) → Plan → List (ℕ × Rule)
failures_of_tests tests root p = failures_below tests p ++ listed (or_else (refused_at (number p) (tests p)) (refused_at (number p) (root p)))

-- by a rule table
abbrev pub failures_by : (derives : Bool) → (ℕ → Relation) → (total : Bool) → Plan → List (ℕ × Rule)
failures_by derives catalog total p = failures_of_tests (tests_by derives catalog) (root_tests_by derives catalog total) p

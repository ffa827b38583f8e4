-- The nodes of a plan by their numbers, and answers of theirs.
use Rattle.std.specs.Prelude.{◌≡◌, ℕ, nat_lt, ◌&&◌, ⊤, List, [], ◌∷◌, ◌++◌, slice_get, Option, Some, None}
use Rattle.vx_catalog_relations.specs.Relation.{Relation}
use Rattle.vx_plan_nodes.specs.Plan.{Plan, scan, unary, binary, exchange}
use Rattle.vx_plan_nodes.specs.Types.{width}
use Rattle.vx_plan_facts.specs.Determined.{Columns, determined}
use Rattle.vx_plan_facts.specs.Asking.{Input, IsAnswer}

-- the nodes of a plan, in the order of their numbers
abbrev pub in_order : Plan → List Plan
in_order (scan n c r m z) = scan n c r m z ∷ []
in_order (unary n c op p) = unary n c op p ∷ in_order p
in_order (binary n c op p q) = binary n c op p q ∷ (in_order p ++ in_order q)
in_order (exchange n c k m p) = exchange n c k m p ∷ in_order p

-- each node of a plan stands among these, at its number
abbrev pub StandAmong : List Plan → Plan → Type 0
StandAmong all (scan n c r m z) = slice_get all n ≡ Some (scan n c r m z)
StandAmong all (unary n c op p) = (slice_get all n ≡ Some (unary n c op p)) × StandAmong all p
StandAmong all (binary n c op p q) = (slice_get all n ≡ Some (binary n c op p q)) × StandAmong all p × StandAmong all q
StandAmong all (exchange n c k m p) = (slice_get all n ≡ Some (exchange n c k m p)) × StandAmong all p

-- so do those of an input, if there is one
abbrev pub InputStandsAmong : List Plan → Option Input → Type 0
InputStandsAmong all None = ⊤
InputStandsAmong all (Some i) = StandAmong all i.1

-- ---- answers

-- a set of columns that a node was asked for, and the columns that it answered
abbrev pub Answer : Type 0
Answer = Columns × Columns

-- if there is one, it is an answer of the node at the top
abbrev pub IsAnswerOf : (ℕ → Relation) → Plan → Option Answer → Type 0
IsAnswerOf catalog p None = ⊤
IsAnswerOf catalog p (Some a) = IsAnswer catalog p a.0 a.1

-- both sets determine the same columns of the node at the top
abbrev pub DetermineSame : (ℕ → Relation) → Plan → Columns → Columns → Type 0
DetermineSame catalog p s t = (x : ℕ) → (nat_lt x (width catalog p) && determined catalog p t x) ≡ (nat_lt x (width catalog p) && determined catalog p s x)

-- How a node asks its inputs which columns are determined: not again what stands in their last answers.
use Rattle.std.specs.Prelude.{◌≡◌, ◌<◌, ℕ, nat_lt, nat_le, Bool, true, false, ◌&&◌, ◌||◌, ⊤, List, Option, Some, None}
use Rattle.vx_rows_values.specs.Limits.{max_columns}
use Rattle.vx_catalog_relations.specs.Relation.{Relation}
use Rattle.vx_plan_nodes.specs.Plan.{Claim, union, join, semi_join, Plan, scan, unary, binary, exchange}
use Rattle.vx_plan_nodes.specs.Types.{width, well_formed}
use Rattle.vx_plan_nodes.specs.Describe.{Copying, whole_rows, left_of, right_of, source, described}
use Rattle.vx_plan_facts.specs.Facts.{Facts, AreNumbered}
use Rattle.vx_plan_facts.specs.Naming.{names_within}
use Rattle.vx_plan_facts.specs.Determined.{Columns, column_in, sources_in, determined}
use Rattle.vx_plan_facts.specs.DeterminedFacts.{Within}

-- ---- the plan

-- the node at the top with these keys in place of those that it claims
abbrev pub claim_with : List (List ℕ) → Claim → Claim
claim_with keys c = record { part = c.part; order = c.order; keys = keys }

abbrev pub with_keys : List (List ℕ) → Plan → Plan
with_keys keys (scan n c r m z) = scan n (claim_with keys c) r m z
with_keys keys (unary n c op p) = unary n (claim_with keys c) op p
with_keys keys (binary n c op p q) = binary n (claim_with keys c) op p q
with_keys keys (exchange n c k m p) = exchange n (claim_with keys c) k m p

-- each node has columns within the limit, and copies columns that its input has
abbrev pub is_within : (ℕ → Relation) → Plan → Bool
is_within catalog (scan n c r m z) = nat_le (width catalog (scan n c r m z)) max_columns
is_within catalog (unary n c op p) = is_within catalog p && (names_within (width catalog p) op && nat_le (width catalog (unary n c op p)) max_columns)
is_within catalog (binary n c op p q) = is_within catalog p && (is_within catalog q && nat_le (width catalog (binary n c op p q)) max_columns)
is_within catalog (exchange n c k m p) = is_within catalog p

-- a plan of which these are the facts of the nodes, by their numbers
pub record IsKnown (catalog : ℕ → Relation) (facts : List Facts) (p : Plan) : Type 0 where
  pub formed : well_formed catalog p ≡ true
  pub within : is_within catalog p ≡ true
  pub numbered : AreNumbered catalog facts p

-- ---- its inputs

-- how a node copies columns of an input, and the plan below
abbrev pub Input : Type 0
Input = Copying × Plan

-- the inputs that a node asks: the one below it, the two of a join, or the left one of a semi or an anti join
abbrev pub left_input : (ℕ → Relation) → Plan → Option Input
left_input catalog (scan n c r m z) = None
left_input catalog (unary n c op p) = Some ((described op).copying, p)
left_input catalog (binary n c union p q) = None
left_input catalog (binary n c (join method on) p q) = Some (left_of (width catalog p), p)
left_input catalog (binary n c (semi_join matched on conditions) p q) = Some (whole_rows, p)
left_input catalog (exchange n c k m p) = Some (whole_rows, p)

abbrev pub right_input : (ℕ → Relation) → Plan → Option Input
right_input catalog (binary n c (join method on) p q) = Some (right_of (width catalog p), q)
right_input catalog p = None

-- of w columns those that are copies are copies of columns of the input
abbrev pub Reaches : ℕ → Copying → ℕ → Type 0
Reaches w k v = (c x : ℕ) → c < w → source k c ≡ Some x → x < v

pub record Reached (catalog : ℕ → Relation) (facts : List Facts) (w : ℕ) (k : Copying) (p : Plan) : Type 0 where
  pub known : IsKnown catalog facts p
  pub narrow : nat_le w max_columns ≡ true
  pub reaches : Reaches w k (width catalog p)

abbrev pub InputIsKnown : (ℕ → Relation) → List Facts → ℕ → Option Input → Type 0
InputIsKnown catalog facts w None = ⊤
InputIsKnown catalog facts w (Some i) = Reached catalog facts w i.0 i.1

-- ---- answers

-- the input was asked for what these columns determine, and it was answered
abbrev pub IsAnswer : (ℕ → Relation) → Plan → (asked answer : Columns) → Type 0
IsAnswer catalog p asked answer = (x : ℕ) → answer x ≡ (nat_lt x (width catalog p) && determined catalog p asked x)

-- the input was asked: it answered for the columns that the found ones stand for, these were not all in its last answer, and the copies were put in
pub record WasAsked (catalog : ℕ → Relation) (w : ℕ) (k : Copying) (p : Plan) (old new : Columns) (last : Option Columns) (answer : Columns) : Type 0 where
  pub answers : IsAnswer catalog p (sources_in w k old) answer
  pub put : (c : ℕ) → c < max_columns → new c ≡ (old c || (nat_lt c w && column_in answer (source k c)))
  pub fresh : (a : Columns) → last ≡ Some a → (x : ℕ) × (x < width catalog p) × (sources_in w k old x ≡ true) × (a x ≡ false)

-- the input was not asked, since all of it stands in its last answer
pub record WasAnswered (w : ℕ) (k : Copying) (old : Columns) (last : Option Columns) : Type 0 where
  pub answer : Columns
  pub is_last : last ≡ Some answer
  pub within : Within (sources_in w k old) answer

abbrev pub Asked : (ℕ → Relation) → ℕ → Option Input → Bool → (old new : Columns) → (last next : Option Columns) → Type 0
Asked catalog w None asked old new last next = (asked ≡ false) × (new ≡ old) × (next ≡ last)
Asked catalog w (Some i) true old new last next = (a : Columns) × (next ≡ Some a) × WasAsked catalog w i.0 i.1 old new last a
Asked catalog w (Some i) false old new last next = WasAnswered w i.0 old last × (new ≡ old) × (next ≡ last)

-- The answers that are kept of nodes, as the program holds them.
use Rattle.std.specs.Prelude.{◌≡◌, ℕ, List, Option, Some, option_map, slice_get, length}
use Rattle.vx_catalog_relations.specs.Relation.{Relation}
use Rattle.vx_plan_nodes.specs.Plan.{Plan}
use Rattle.vx_plan_facts.specs.declared.answers.Answer as rust_answer
use Rattle.vx_plan_facts.specs.declared.answers.Answers as rust_answers
use Rattle.vx_plan_facts.specs.ColumnSetView.{set_of_columns}
use Rattle.vx_plan_facts.specs.Facts.{Facts}
use Rattle.vx_plan_facts.specs.Asking.{Input, IsKnown, InputIsKnown, with_keys}
use Rattle.vx_plan_facts.specs.Known.{Answer, IsAnswerOf, StandAmong, InputStandsAmong}

abbrev pub answer_of : rust_answer.Answer → Answer
answer_of a = (set_of_columns a.asked, set_of_columns a.found)

-- each that is kept is an answer of the node at the top
abbrev pub AreAnswersOf : (ℕ → Relation) → Plan → rust_answers.Answers → Type 0
AreAnswersOf catalog p a = (i : ℕ) → IsAnswerOf catalog p (option_map answer_of (slice_get a.kept.items i))

-- for each node there is a place, and what is kept at the number of a node are answers of it
pub record AreKept (catalog : ℕ → Relation) (all : List Plan) (count : ℕ) (answers : List rust_answers.Answers) : Type 0 where
  pub wide : length answers ≡ count
  pub right : (n : ℕ) (p : Plan) (a : rust_answers.Answers) → slice_get all n ≡ Some p → slice_get answers n ≡ Some a → AreAnswersOf catalog p a

-- ---- what is known

-- what is kept holds of this plan, whose nodes are all of these
pub record IsKnownAmong (catalog : ℕ → Relation) (all : List Plan) (facts : List Facts) (answers : List rust_answers.Answers) (p : Plan) : Type 0 where
  pub known : IsKnown catalog facts p
  pub among : StandAmong all p
  pub kept : AreKept catalog all (length facts) answers

-- so it does if the node at the top had these keys
pub record IsKnownWith (catalog : ℕ → Relation) (all : List Plan) (facts : List Facts) (answers : List rust_answers.Answers) (keys : List (List ℕ)) (p : Plan) : Type 0 where
  pub known : IsKnown catalog facts (with_keys keys p)
  pub among : StandAmong all p
  pub kept : AreKept catalog all (length facts) answers

-- so it does of an input, if there is one
pub record InputIsKnownAmong (catalog : ℕ → Relation) (all : List Plan) (facts : List Facts) (answers : List rust_answers.Answers) (w : ℕ) (i : Option Input) : Type 0 where
  pub input : InputIsKnown catalog facts w i
  pub among : InputStandsAmong all i
  pub kept : AreKept catalog all (length facts) answers

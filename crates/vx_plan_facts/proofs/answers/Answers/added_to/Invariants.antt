use Rattle.std.proofs.Common.{◌≡◌, ◌≤◌, ℕ, true}
use Rattle.vx_rows_values.specs.Limits.{max_columns}
use Rattle.vx_catalog_relations.specs.Relation.{Relation}
use Rattle.vx_plan_nodes.specs.Plan.{Plan}
use Rattle.vx_plan_nodes.specs.Types.{width, well_formed}
use Rattle.vx_plan_facts.specs.ColumnSetView.{set_of_columns}
use Rattle.vx_plan_facts.specs.Known.{DetermineSame}
use Rattle.vx_plan_facts.specs.AnswersView.{AreAnswersOf}
use Rattle.vx_plan_facts.proofs.answers.Answers.added_to.Given as goal

abbrev pub invariant-loop-answer : goal.invariant-loop-answer
invariant-loop-answer l =
    (catalog : ℕ → Relation) (p : Plan) → well_formed catalog p ≡ true → width catalog p ≤ max_columns → AreAnswersOf catalog p l.self
    → DetermineSame catalog p (set_of_columns l.set) (set_of_columns l.larger)

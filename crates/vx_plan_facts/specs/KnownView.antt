-- What is kept of a whole plan, as the program holds it.
use Rattle.std.specs.Prelude.{ℕ, map}
use Rattle.vx_catalog_relations.specs.Relation.{Relation}
use Rattle.vx_plan_nodes.specs.Plan.{Plan}
use Rattle.vx_plan_nodes.specs.declared.typed_plan.TypedPlan as rust_plan
use Rattle.vx_plan_nodes.specs.TypedView.{plan}
use Rattle.vx_plan_facts.specs.declared.known.KnownColumns as rust_known
use Rattle.vx_plan_facts.specs.AnswersView.{IsKnownAmong}
use Rattle.vx_plan_facts.specs.FactsView.{facts_of}
use Rattle.vx_plan_facts.specs.Known.{in_order}

-- the plan of which it is kept
abbrev pub plan_known : rust_known.KnownColumns → rust_plan.TypedPlan
plan_known k = k.plan.now

-- what is kept holds of this plan, which is that whole plan or a part of it
abbrev pub IsKnownOf : (ℕ → Relation) → rust_known.KnownColumns → Plan → Type 0
IsKnownOf catalog k p = IsKnownAmong catalog (in_order (plan (plan_known k))) (map facts_of k.facts.items) k.answers.items p

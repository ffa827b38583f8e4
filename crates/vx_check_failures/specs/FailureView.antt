-- Failures as the program holds them, those of a typed plan, and its rule table.
use Rattle.std.specs.Prelude.{◌≡◌, ℕ, List}
use Rattle.vx_catalog_relations.specs.Catalog.{relation_at}
use Rattle.vx_plan_nodes.specs.declared.typed.TypedNode as rust_node
use Rattle.vx_plan_nodes.specs.Outline.{outline_of, plan_of}
use Rattle.vx_plan_nodes.specs.Outputs.{HasOutputs}
use Rattle.vx_plan_nodes.specs.declared.typed_plan.TypedPlan.{TypedPlan}
use Rattle.vx_plan_nodes.specs.TypedView.{names_in, plan, resolved_of}
use Rattle.vx_check_rules.specs.Refusal.{Rule}
use Rattle.vx_check_rules.specs.RuleView.{rule_of}
use Rattle.vx_check_rules.specs.Checked.{relations}
use Rattle.vx_check_rules.specs.Exactly.{KeysNameColumns}
use Rattle.vx_check_rules.specs.declared.table.Table as rust_table
use Rattle.vx_check_rules.specs.TableView.{derives, Judges}
use Rattle.vx_check_failures.specs.declared.failure.Failure.{Failure}
use Rattle.vx_check_failures.specs.Failures.{failures_by}

-- a node and the rule that fails there
abbrev pub failure_is : Failure → ℕ × Rule
failure_is f = (f.node, rule_of f.rule)

-- all failures of a typed plan, by the rule table that it asks for
abbrev pub failures_of_plan : TypedPlan → List (ℕ × Rule)
failures_of_plan p = failures_by (resolved_of p).derives (relations p) (resolved_of p).total (plan p)

-- a rule table is the one that a typed plan asks for, and judges it
pub record IsTableOf (t : rust_table.Table) (p : TypedPlan) : Type 0 where
  pub derives_as : derives t ≡ (resolved_of p).derives
  pub judges : Judges (names_in p).catalog t (plan p)

-- a node of a typed plan: it says of its output what the plan gives it, its claimed keys name its columns, and what judges the plan judges it
pub record IsNodeOf (p : TypedPlan) (t : rust_node.TypedNode) : Type 0 where
  pub outputs : HasOutputs (relation_at (names_in p).catalog) (outline_of t)
  pub keys : KeysNameColumns (relation_at (names_in p).catalog) (plan_of t)
  pub judged : (table : rust_table.Table) → Judges (names_in p).catalog table (plan p) → Judges (names_in p).catalog table (plan_of t)

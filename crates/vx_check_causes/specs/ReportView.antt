-- What is said of a plan, as the program holds it.
use Rattle.std.specs.Prelude.{◌≡◌, ◌≢◌, List, Option, Some, None, String, string_bytes}
use Rattle.std.specs.declared.alloc.Global.{Global}
use Rattle.vx_catalog_relations.specs.Relation.{Relation}
use Rattle.vx_plan_json.specs.Document.{Document}
use Rattle.vx_plan_nodes.specs.declared.typed_plan.TypedPlan.{TypedPlan}
use Rattle.vx_plan_nodes.specs.TypedView.{resolved_of}
use Rattle.vx_check_rules.specs.Checked.{refusal_of_plan}
use Rattle.vx_check_causes.specs.Grouped.{AreGrouped}

-- nothing where the checker accepts the plan of a document; else a line for each node that fails
abbrev pub IsReport : List Relation → Document → TypedPlan → Option (String Global) → Type 0
IsReport catalog d p None = refusal_of_plan p ≡ None
IsReport catalog d p (Some text) = (refusal_of_plan p ≢ None) × AreGrouped catalog d (resolved_of p) (string_bytes text)

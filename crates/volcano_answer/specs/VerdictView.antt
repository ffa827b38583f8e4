-- A check of all nodes of a plan, as it is held.
use Rattle.std.specs.Prelude.{List, string_bytes}
use Rattle.vx_catalog_relations.specs.Relation.{Relation}
use Rattle.vx_plan_json.specs.Document.{Document}
use Rattle.vx_plan_nodes.specs.Names.{TypedPlanView}
use Rattle.volcano_answer.specs.declared.failing.Findings.{Findings}
use Rattle.volcano_answer.specs.declared.failing.Findings.TheVariants as findings
use Rattle.volcano_answer.specs.Verdict.{IsAllShown, AreFailures}

abbrev pub IsVerdict : List Relation → Document → TypedPlanView → Findings → Type 0
IsVerdict relations d p (findings.Accepted text) = IsAllShown p text.items
IsVerdict relations d p (findings.Failing lines) = AreFailures relations d p (string_bytes lines)

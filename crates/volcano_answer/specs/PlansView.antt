-- Several plans, as they are held.
use Rattle.std.specs.Prelude.{List, map, string_bytes}
use Rattle.vx_plan_nodes.specs.TypedView.{resolved_of}
use Rattle.vx_check_rules.specs.CheckedView.{typed_plan}
use Rattle.volcano_answer.specs.declared.plans.AcceptedPlan.{AcceptedPlan}
use Rattle.volcano_answer.specs.declared.plans.AcceptedPlans.{AcceptedPlans}
use Rattle.volcano_answer.specs.Plans.{NamedPlan}

abbrev pub named_is : AcceptedPlan → NamedPlan
named_is p = record { path = string_bytes p.path; plan = resolved_of (typed_plan p.plan) }

abbrev pub plans_are : AcceptedPlans → List NamedPlan
plans_are ps = map named_is ps.plans.items

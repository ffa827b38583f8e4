-- A checked plan, as the typed plan that it is.
use Rattle.vx_plan_nodes.specs.declared.typed_plan.TypedPlan.{TypedPlan}
use Rattle.vx_check_rules.specs.declared.checked.CheckedPlan.{CheckedPlan}

abbrev pub typed_plan : CheckedPlan → TypedPlan
typed_plan c = c.plan

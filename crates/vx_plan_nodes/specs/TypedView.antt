-- A typed plan, as its parts: what it may name, its plan, and the names that it keeps.
use Rattle.std.specs.Prelude.{map, string_bytes}
use Rattle.vx_plan_nodes.specs.declared.typed_plan.TypedPlan.{TypedPlan}
use Rattle.vx_plan_nodes.specs.Plan.{Plan}
use Rattle.vx_plan_nodes.specs.Typed.{Scope}
use Rattle.vx_rows_values.specs.Ranges.{range_form}
use Rattle.vx_plan_nodes.specs.Names.{Names, scope_of, TypedPlanView}
use Rattle.vx_plan_nodes.specs.Outline.{outline_of, plan_of}

abbrev pub names_in : TypedPlan → Names
names_in p = record { catalog = p.catalog; ranges = map range_form p.ranges.items; sizes = map string_bytes p.sizes.items }

-- what the plan's nodes may name, without the names
abbrev pub scope : TypedPlan → Scope
scope p = scope_of (names_in p)

-- the plan of the definitions that it stands for
abbrev pub plan : TypedPlan → Plan
plan p = plan_of p.root

abbrev pub resolved_of : TypedPlan → TypedPlanView
resolved_of p = record { names = names_in p; total = p.total; derives = p.derives; root = outline_of p.root }
